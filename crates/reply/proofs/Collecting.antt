-- Collecting the ids of a node's children from the entries after it: the start, one turn, and each way out.
use mathlib.Core.Bool.{Bool, true, false, cond, ◌&&◌}
use mathlib.Core.List.{List, [], ◌∷◌, ◌++◌, append-nil}
use mathlib.Core.Path.{◌≡◌, refl, sym, ap, ◌∙◌}
use Prim.Native.Nat.{ℕ, suc, ◌+◌, ◌-◌, ◌/◌, ◌≤◌, ◌<◌}
use native.Mathlib.Numerals.{add-one}
use native.Mathlib.Omega.{arith}
use borrow.Author.Tests.{eq-eqb, ne_eqb, le-leb, lt-leb}
use lib.Dec.{eqb, leb}
use lib.ListN.{length, take, set, replicate, length-set, length-append, length-replicate}
use lib.Seq.{take-suc-set, append_snoc, length-take-le}
use Rattle.node_table.specs.Entries.{id_at, level_at, entry_at}
use Rattle.node_table.specs.declared.Entry.{Entry}
use Rattle.node_table.specs.Nodes.{inside, entries_from}
use Rattle.node_table.proofs.Nodes.{from_past}
use Rattle.protocol.specs.Sender.{child_ids}
use Rattle.reply.specs.declared.child.Role.{Role}
use Rattle.reply.specs.declared.child.Role.TheVariants.{End, Passed, Child}
use Rattle.reply.specs.Parts.{role_at, Listing}

-- Each way out of finding an entry's role.
module _ (nodes : List ℕ) (n l k : ℕ) where
  pub role_unused : (id : ℕ) → id ≡ id_at nodes k → id ≡ 0 → End ≡ role_at nodes n l k
  unfolding role_at
  role_unused id e z = rw (← e, eq-eqb id 0 z)

  module _ (id : ℕ) (e : id ≡ id_at nodes k) (used : id ≡ 0 → ⊥) (level : ℕ) (f : level ≡ level_at nodes k) where
    pub role_end : level ≤ l → End ≡ role_at nodes n l k
    unfolding role_at
    role_end h = rw (← e, ne_eqb id 0 used, ← f, le-leb level l h)

    module _ (h : l < level) where
      pub role_deeper : (level - l ≡ 1 → ⊥) → Passed ≡ role_at nodes n l k
      unfolding role_at
      role_deeper g =
          rw (← e, ne_eqb id 0 used, ← f, lt-leb level l h, ne_eqb level (l + 1) (λ s. g (omega arith))) (sym (never (inside n (entry_at nodes k))))
        where
          never : (t : Bool) → ◌≡◌ {A = Role} (cond (t && false) Child Passed) Passed
          never true = refl
          never false = refl

      module _ (g : level - l ≡ 1) (r : Bool) (is : r ≡ inside n (entry_at nodes k)) where
        pub role_child : r ≡ true → Child ≡ role_at nodes n l k
        unfolding role_at
        role_child t = rw (← e, ne_eqb id 0 used, ← f, lt-leb level l h, sym is ∙ t, eq-eqb level (l + 1) (omega arith))

        pub role_outside : r ≡ false → Passed ≡ role_at nodes n l k
        unfolding role_at
        role_outside t = rw (← e, ne_eqb id 0 used, ← f, lt-leb level l h, sym is ∙ t)

-- The ids, from an entry of that role and id and from those after it.
unfoldable chosen : Role → ℕ → List ℕ → List ℕ
chosen End id rest = []
chosen Passed id rest = rest
chosen Child id rest = id ∷ rest

one_role : (d c : Bool) (id : ℕ) (rest : List ℕ) → cond d [] (cond c (id ∷ rest) rest) ≡ chosen (cond d End (cond c Child Passed)) id rest
unfolding chosen
one_role true c id rest = refl
one_role false true id rest = refl
one_role false false id rest = refl

one_entry : (n l : ℕ) (e : Entry) (es : List Entry) (z : Bool)
    → child_ids n l (cond z [] (e ∷ es))
    ≡ chosen (cond z End (cond (leb e.level l) End (cond (inside n e && eqb e.level (l + 1)) Child Passed))) e.id (child_ids n l es)
unfolding child_ids chosen
one_entry n l e es true = refl
one_entry n l e es false = one_role (leb e.level l) (inside n e && eqb e.level (l + 1)) e.id (child_ids n l es)

-- The ids of the children from entry k on.
abbrev pub ids_from : List ℕ → (n l k : ℕ) → List ℕ
ids_from nodes n l k = child_ids n l (entries_from nodes (length nodes / 16 - k) k)

ids_chosen : (nodes : List ℕ) (n l k : ℕ) → k < length nodes / 16
    → ids_from nodes n l k ≡ chosen (role_at nodes n l k) (id_at nodes k) (ids_from nodes n l (k + 1))
unfolding entries_from role_at
ids_chosen nodes n l k h =
    let left : length nodes / 16 - k ≡ suc (length nodes / 16 - (k + 1)) = omega arith in
    rw left
    (one_entry n l (entry_at nodes k) (entries_from nodes (length nodes / 16 - (k + 1)) (k + 1)) (eqb (id_at nodes k) 0))

-- The ids collected and those still to come are all.
pub record Collecting (all nodes : List ℕ) (n l k count : ℕ) (ids : List ℕ) : Type 0 where
  pub room : length ids ≡ 32
  pub fits : count ≤ 32
  pub rest : take count ids ++ ids_from nodes n l k ≡ all

pub collect_start : (nodes : List ℕ) (n l from : ℕ) → Collecting (ids_from nodes n l from) nodes n l from 0 (replicate 32 0)
collect_start nodes n l from = record { room = length-replicate {A = ℕ} 32 0; fits = omega arith; rest = refl }

ended : (all nodes : List ℕ) (n l k count : ℕ) (ids : List ℕ) → ids_from nodes n l k ≡ []
    → Collecting all nodes n l k count ids → Listing all (record { count = count; ids = ids })
ended all nodes n l k count ids e c =
    record {
      room = c.room;
      few = c.fits;
      ids_are = sym (append-nil (take count ids)) ∙ (ap (λ (r : List ℕ). take count ids ++ r) (sym e) ∙ c.rest);
    }

pub collect_end : (all nodes : List ℕ) (n l k count : ℕ) (ids : List ℕ) → length nodes / 16 ≤ k
    → Collecting all nodes n l k count ids → Listing all (record { count = count; ids = ids })
unfolding child_ids
collect_end all nodes n l k count ids h c = ended all nodes n l k count ids (rw (from_past nodes k h)) c

module _ (all nodes : List ℕ) (n l k count : ℕ) (ids : List ℕ) (h : k < length nodes / 16) (c : Collecting all nodes n l k count ids) where
  here : (role : Role) → role ≡ role_at nodes n l k → ids_from nodes n l k ≡ chosen role (id_at nodes k) (ids_from nodes n l (k + 1))
  here role is = ids_chosen nodes n l k h ∙ ap (λ (r : Role). chosen r (id_at nodes k) (ids_from nodes n l (k + 1))) (sym is)

  pub collect_stop : End ≡ role_at nodes n l k → Listing all (record { count = count; ids = ids })
  unfolding chosen
  collect_stop is = ended all nodes n l k count ids (here End is) c

  pub collect_pass : Passed ≡ role_at nodes n l k → Collecting all nodes n l (k + 1) count ids
  unfolding chosen
  collect_pass is =
      record { room = c.room; fits = c.fits; rest = ap (λ (r : List ℕ). take count ids ++ r) (sym (here Passed is)) ∙ c.rest }

  module _ (is : Child ≡ role_at nodes n l k) where
    one : ids_from nodes n l k ≡ id_at nodes k ∷ ids_from nodes n l (k + 1)
    unfolding chosen
    one = here Child is

    pub collect_child : (id : ℕ) → id ≡ id_at nodes k → (count ≡ 32 → ⊥) → Collecting all nodes n l (k + 1) (count + 1) (set ids count id)
    collect_child id e f =
        let fits = c.fits in
        let room = c.room in
        let rest = ids_from nodes n l (k + 1) in
        record {
          room = length-set ids count id ∙ room;
          fits = omega arith;
          rest =
              ap (λ (r : List ℕ). r ++ rest) (ap (λ (m : ℕ). take m (set ids count id)) (add-one count) ∙ take-suc-set ids count id (omega arith))
              ∙ (append_snoc (take count ids) id rest
              ∙ (ap (λ (x : ℕ). take count ids ++ x ∷ rest) e ∙ (ap (λ (r : List ℕ). take count ids ++ r) (sym one) ∙ c.rest)));
        }

    pub collect_full : count ≡ 32 → 32 < length all
    collect_full f =
        let fits = c.fits in
        let room = c.room in
        let long : length all ≡ count + suc (length (ids_from nodes n l (k + 1))) =
        ap length (sym c.rest ∙ ap (λ (r : List ℕ). take count ids ++ r) one)
        ∙ (length-append (take count ids) (id_at nodes k ∷ ids_from nodes n l (k + 1))
        ∙ ap (λ (m : ℕ). m + suc (length (ids_from nodes n l (k + 1)))) (length-take-le count ids (omega arith))) in
        omega arith
