-- The ways out of deciding are cases of the questions in their order: one of the first three refuses, or the sketch is asked.
use mathlib.Core.Bool.{Bool, true, false, ◌&&◌}
use mathlib.Core.List.{List, []}
use mathlib.Core.Path.{◌≡◌, refl, sym, ap, ap₂, ◌∙◌}
use Prim.Native.Nat.{ℕ}
use native.Mathlib.Omega.{arith}
use borrow.Author.Tests.{eq-eqb, ne_eqb}
use lib.ListN.{length, replicate}
use Rattle.tree.specs.Questions.{ask}
use Rattle.entries.specs.Entries.{table_bytes}
use Rattle.shingle.specs.declared.Shingle.{Shingle}
use Rattle.shingle.specs.Table.{shingles_in}
use Rattle.sketch.specs.Opening.{Signed, positives, negatives, all_zero, opens_to, opens}
use Rattle.single.specs.Peeling.{width_fits, taken_from, list_table, Taken}
use Rattle.opening.specs.Deciding.{open_refusal, taken_after, Decided}
use Rattle.opening.specs.Steps.{size_refusal, opens_with}
use Rattle.opening.proofs.Verdict.{opens_apart}

-- Three questions asked before a fourth: one refuses, or all are passed.
refuses : (a b c : Bool) (next e : ℕ) → e ≡ ask a 3 (ask b 5 (ask c 7 0)) → (e ≡ 0 → ⊥) → e ≡ ask a 3 (ask b 5 (ask c 7 next))
unfolding ask
refuses true true true next e f fails = absurd (fails f)
refuses true true false next e f fails = f
refuses true false c next e f fails = f
refuses false b c next e f fails = f

passes : (a b c : Bool) (next e : ℕ) → e ≡ ask a 3 (ask b 5 (ask c 7 0)) → e ≡ 0 → (ask a 3 (ask b 5 (ask c 7 next)) ≡ next) × (b ≡ true)
unfolding ask
passes true true true next e f z = (refl, refl)
passes true true false next e f z = absurd (omega arith)
passes true false c next e f z = absurd (omega arith)
passes false b c next e f z = absurd (omega arith)

-- Tables of nothing.
no_positives : replicate 4608 0 ≡ list_table 4608 (positives [])
unfolding list_table table_bytes positives
no_positives = refl

no_negatives : replicate 4608 0 ≡ list_table 4608 (negatives [])
unfolding list_table table_bytes negatives
no_negatives = refl

module _ (levels width : ℕ) (theirs own shingles : List ℕ) (early : ℕ)
    (asked : early ≡ size_refusal levels width (length theirs) (length own) (length shingles)) where
  nothing : (early ≡ 0 → ⊥) → taken_after levels width theirs own shingles ≡ []
  unfolding taken_after
  nothing fails = rw (ne_eqb _ 0 (λ z. fails (asked ∙ z)))

  all : early ≡ 0 → taken_after levels width theirs own shingles ≡ (taken_from levels width theirs own).taken
  unfolding taken_after
  all z = rw (eq-eqb _ 0 (sym asked ∙ z))

  pub refused : (early ≡ 0 → ⊥) → Decided levels width theirs own shingles early (replicate 4608 0) (replicate 4608 0)
  unfolding open_refusal size_refusal
  refused fails =
      record {
        answer = refuses _ _ _ _ early asked fails;
        positive = λ z. absurd (fails z);
        negative = λ z. absurd (fails z);
        new_bytes = no_positives ∙ ap (λ (zs : List Signed). list_table 4608 (positives zs)) (sym (nothing fails));
        gone_bytes = no_negatives ∙ ap (λ (zs : List Signed). list_table 4608 (negatives zs)) (sym (nothing fails));
      }

  answered : early ≡ 0
      → (open_refusal levels width theirs own shingles ≡ ask (opens_to (shingles_in shingles) (taken_from levels width theirs own)) 14 0)
      × (width_fits width ≡ true)
  unfolding open_refusal size_refusal opens
  answered z = passes _ _ _ _ early asked z

  pub decided : early ≡ 0 → (new gone : List ℕ) (empty opened : Bool) (refusal : ℕ) → Taken levels width theirs own new gone empty
      → opened ≡ opens_with empty (shingles_in new) (shingles_in gone) (shingles_in shingles) → refusal ≡ ask opened 14 0
      → Decided levels width theirs own shingles refusal new gone
  decided z new gone empty opened refusal t is said =
      let p = taken_from levels width theirs own in
      let list = shingles_in shingles in
      let fits = (answered z).1 in
      let left : empty ≡ all_zero p.left = t.all ∙ ap (λ (b : Bool). b && all_zero p.left) fits in
      let opens : opened ≡ opens_to list p =
      is ∙ (ap (λ (b : Bool). opens_with b (shingles_in new) (shingles_in gone) list) left
      ∙ (ap₂ (λ (x y : List Shingle). opens_with (all_zero p.left) x y list) (t.positive fits).list (t.negative fits).list
      ∙ sym (opens_apart list p))) in
      record {
        answer = said ∙ (ap (λ (b : Bool). ask b 14 0) opens ∙ sym (answered z).0);
        positive = λ e. (t.positive fits).list;
        negative = λ e. (t.negative fits).list;
        new_bytes = (t.positive fits).bytes ∙ ap (λ (zs : List Signed). list_table 4608 (positives zs)) (sym (all z));
        gone_bytes = (t.negative fits).bytes ∙ ap (λ (zs : List Signed). list_table 4608 (negatives zs)) (sym (all z));
      }
