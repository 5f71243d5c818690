-- Questions 1 to 7: each way out is a case of the definition, and what passed questions give.
use mathlib.Core.Bool.{Bool, true, false, ◌&&◌}
use mathlib.Core.Path.{◌≡◌, refl, sym}
use Prim.Native.Nat.{ℕ, ◌*◌, ◌/◌, ◌≤◌, ◌<◌}
use native.Mathlib.Nat.{suc-ne-zero}
use native.Mathlib.Omega.{arith}
use borrow.Author.Tests.{eq-eqb, ne_eqb, eqb-true, eqb-false, le-leb, lt-leb, leb-true}
use lib.Dec.{leb, eqb}
use Rattle.tree.specs.declared.Settings.{Settings}
use Rattle.tree.specs.Questions.{ask, refusal}
use Rattle.tree.proofs.Questions.{passed}
use Rattle.shingle.proofs.PairOrder.{and_true}
use Rattle.setup.specs.Questions.{tables_fit, lent_refusal}

module _ (σ : Settings) (n r : ℕ) (is : r ≡ refusal σ n) where
  pub refused_settings : (fit : Bool) → (r ≡ 0 → ⊥) → r ≡ lent_refusal σ n fit
  unfolding lent_refusal ask
  refused_settings fit some = rw (← is, ne_eqb r 0 some)

  module _ (passes : r ≡ 0) where
    pub asked : (fit b : Bool) → fit ≡ b → lent_refusal σ n fit ≡ ask b 7 0
    unfolding lent_refusal ask
    asked fit b e = rw (← is, eq-eqb r 0 passes, e)

    module _ (q nodes shingles cells : ℕ) where
      pub short_nodes : nodes < 65536 → 7 ≡ lent_refusal σ n (tables_fit q nodes shingles cells)
      unfolding tables_fit ask
      short_nodes h = sym (asked _ false (rw (lt-leb 65536 nodes h)))

      pub short_shingles : 65536 ≤ nodes → shingles < 98304 → 7 ≡ lent_refusal σ n (tables_fit q nodes shingles cells)
      unfolding tables_fit ask
      short_shingles h k = sym (asked _ false (rw (le-leb 65536 nodes h, lt-leb 98304 shingles k)))

      pub short_cells : 65536 ≤ nodes → 98304 ≤ shingles → cells / 120 < q → 7 ≡ lent_refusal σ n (tables_fit q nodes shingles cells)
      unfolding tables_fit ask
      short_cells h k j = sym (asked _ false (rw (le-leb 65536 nodes h, le-leb 98304 shingles k, lt-leb (q * 120) cells (omega arith))))

      pub long_enough : 65536 ≤ nodes → 98304 ≤ shingles → q ≤ cells / 120 → 0 ≡ lent_refusal σ n (tables_fit q nodes shingles cells)
      unfolding tables_fit ask
      long_enough h k j = sym (asked _ true (rw (le-leb 65536 nodes h, le-leb 98304 shingles k, le-leb (q * 120) cells (omega arith))))

-- A first question that passes on the number of another refusal: where it is passed, so are the next.
pub both_passed : (number next : ℕ) → ask (eqb number 0) number next ≡ 0 → (number ≡ 0) × (next ≡ 0)
unfolding ask
both_passed number next e = go (eqb number 0) refl e
  where
    go : (b : Bool) → eqb number 0 ≡ b → ask b number next ≡ 0 → (number ≡ 0) × (next ≡ 0)
    go true t e = (eqb-true number 0 t, e)
    go false t e = absurd (eqb-false number 0 t e)

pub width_within : (σ : Settings) (n : ℕ) → refusal σ n ≡ 0 → (1 ≤ σ.width) × (σ.width ≤ 64)
unfolding refusal
width_within σ n e =
    let one = passed _ 1 _ (suc-ne-zero 0) e in
    let two = passed _ 2 _ (suc-ne-zero 1) one.1 in
    let three = passed _ 3 _ (suc-ne-zero 2) two.1 in
    let four = passed _ 4 _ (suc-ne-zero 3) three.1 in
    let five = passed _ 5 _ (suc-ne-zero 4) four.1 in
    let tests = and_true (leb 1 σ.width) (leb σ.width 64) five.0 in
    (leb-true 1 σ.width tests.0, leb-true σ.width 64 tests.1)

-- What holds where 1 to 7 are passed.
pub record Lent (σ : Settings) (n nodes shingles cells : ℕ) : Type 0 where
  pub settings : refusal σ n ≡ 0
  pub width_low : 1 ≤ σ.width
  pub width_high : σ.width ≤ 64
  pub node_room : 65536 ≤ nodes
  pub shingle_room : 98304 ≤ shingles
  pub cell_room : σ.width * 120 ≤ cells

pub lent : (σ : Settings) (n nodes shingles cells : ℕ) (other : Bool)
    → lent_refusal σ n (other && tables_fit σ.width nodes shingles cells) ≡ 0 → (other ≡ true) × Lent σ n nodes shingles cells
unfolding lent_refusal tables_fit
lent σ n nodes shingles cells other e =
    let first = both_passed (refusal σ n) _ e in
    let seven = passed _ 7 0 (suc-ne-zero 6) first.1 in
    let width = width_within σ n first.0 in
    let all = and_true other _ seven.0 in
    let tests = and_true (leb 65536 nodes) _ all.1 in
    let more = and_true (leb 98304 shingles) (leb (σ.width * 120) cells) tests.1 in (
      all.0,
      record {
        settings = first.0;
        width_low = width.0;
        width_high = width.1;
        node_room = leb-true 65536 nodes tests.0;
        shingle_room = leb-true 98304 shingles more.0;
        cell_room = leb-true (σ.width * 120) cells more.1;
      },
    )

pub ask_small : (most : ℕ) (test : Bool) (number next : ℕ) → number ≤ most → next ≤ most → ask test number next ≤ most
unfolding ask
ask_small most true number next h k = k
ask_small most false number next h k = h

pub lent_small : (σ : Settings) (n : ℕ) (fit : Bool) → lent_refusal σ n fit ≤ 7
unfolding lent_refusal refusal
lent_small σ n fit =
    let small : refusal σ n ≤ 7 =
    ask_small 7 _ 1 _ (omega arith) (ask_small 7 _ 2 _ (omega arith) (ask_small 7 _ 3 _ (omega arith)
    (ask_small 7 _ 4 _ (omega arith) (ask_small 7 _ 5 _ (omega arith) (ask_small 7 _ 6 _ (omega arith) (omega arith)))))) in
    ask_small 7 _ _ _ small (ask_small 7 fit 7 0 (omega arith) (omega arith))
