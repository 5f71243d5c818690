-- Copying one pending node after the other: what is settled from here on is what is settled from the start.
use Rattle.std.proofs.Common.{Option as Answer, Some, inl, inr, ◌⊎◌}
use mathlib.Core.List.{List, [], ◌++◌, append_assoc, append-nil}
use mathlib.Core.Option.{Option, none, some}
use mathlib.Core.Path.{◌≡◌, refl, sym, ap, subst, ◌∙◌}
use Prim.Native.Nat.{ℕ, suc, ◌+◌, ◌-◌, ◌≤◌, ◌<◌}
use native.Mathlib.Omega.{arith}
use lib.ListN.{length, get_or, take, drop, replicate, length-append, length-drop, drop_of_length-le}
use lib.Seq.{take_all, take_at, drop_at, drop-drop, length-take-le}
use borrow.Author.Tests.{le-leb, lt-leb}
use Rattle.rows.specs.Rows.{clear_from}
use Rattle.protocol.specs.Nodes.{look}
use Rattle.protocol.specs.State.{pending}
use Rattle.protocol.specs.Receiver.{Settled, too_long, left, copying, settle}
use Rattle.copying.specs.declared.Place.{Place}
use Rattle.copying.specs.declared.Waiting.{Waiting}
use Rattle.copying.specs.declared.Copied.{Copied}
use Rattle.copying.specs.Copying.{Found, pile_of, settled_from, Appended, Zeroed, Copies}

-- Clearing from the start on leaves zeros.
pub cleared_all : (t : List ℕ) → clear_from t 0 ≡ replicate (length t) 0
unfolding clear_from
cleared_all t = let all : length t - 0 ≡ length t = omega arith in ap (λ (k : ℕ). replicate k 0) all

-- A part that lies in the string has its length.
pub length_part : (string : List ℕ) (start size : ℕ) → start + size ≤ length string → length (take size (drop start string)) ≡ size
length_part string start size h = length-take-le size (drop start string) (let d = length-drop start string in omega (arith, d, h))

abbrev pub empty : Waiting
empty = record { level = 0; id = 0 }

module _ (string nodes : List ℕ) (size : ℕ) (before : List ℕ) (built waiting : ℕ) (places : List Waiting) where
  abbrev from : ℕ → List ℕ → ℕ → Settled
  from at now more = settle (look string nodes) size (take at now) (pile_of more places)

  pub record Turning (now : List ℕ) (at more : ℕ) : Type 0 where
    pub room : size ≤ length before
    pub far : at ≤ size
    pub few : more ≤ 128
    pub less : more ≤ waiting
    pub long : length now ≡ length before
    pub rest : drop at now ≡ drop at before
    pub same : settled_from string nodes size before built waiting places ≡ from at now more

  pub turning_start : size ≤ length before → built ≤ size → waiting ≤ 128 → Turning before built waiting
  unfolding settled_from
  turning_start h k w =
      record {
        room = h;
        far = k;
        few = w;
        less = omega arith;
        long = refl;
        rest = refl;
        same = rw (le-leb size (length before) h, le-leb built size k, le-leb waiting 128 w) refl;
      }

  module _ (now : List ℕ) (at more : ℕ) (t : Turning now at more) where
    -- A way out with what is pending then.
    stays : from at now more ≡ left (take at now) (pile_of more places)
        → Copies string nodes size before now built waiting places (Some (record { built = at; waiting = more }))
    stays e = record { fits = t.same ∙ e; rest = t.rest; within = (t.far, t.less) }

    pub none_pending : more ≤ 0 → Copies string nodes size before now built waiting places (Some (record { built = at; waiting = 0 }))
    unfolding settle pile_of
    none_pending h =
        let zero_left : more ≡ 0 = omega (arith, h) in
        subst (λ (k : ℕ). Copies string nodes size before now built waiting places (Some (record { built = at; waiting = k }))) zero_left
        (stays (ap (from at now) zero_left ∙ ap (λ (k : ℕ). left (take at now) (pile_of k places)) (sym zero_left)))

    -- The top of the pile.
    module _ (some_left : 0 < more) (id : ℕ) (top : id ≡ (get_or places (more - 1) empty).id) where
      one_more : more ≡ suc (more - 1)
      one_more = omega (arith, some_left)

      -- What the top's look-up decides.
      decided : (o : Option (List ℕ)) → look string nodes id ≡ o
          → from at now more ≡ copying (λ (bytes : List ℕ). settle (look string nodes) size bytes (pile_of (more - 1) places)) size (take at now)
          (pending (get_or places (more - 1) empty).level (get_or places (more - 1) empty).id) (pile_of (more - 1) places) o
      unfolding settle pile_of
      decided o e = ap (from at now) one_more ∙ rw (← top, e) refl

      pub unknown : look string nodes id ≡ none
          → Copies string nodes size before now built waiting places (Some (record { built = at; waiting = more }))
      unfolding copying pile_of
      unknown e = stays (decided none e ∙ ap (λ (k : ℕ). left (take at now) (pile_of k places)) (sym one_more))

      built_length : length (take at now) ≡ at
      built_length = length-take-le at now (omega (arith, t.far, t.room, t.long))

      module _ (bytes : List ℕ) (known : look string nodes id ≡ some bytes) where
        pub longer : size - at < length bytes → settled_from string nodes size before built waiting places ≡ too_long
        unfolding copying
        longer h =
            t.same
            ∙ (decided (some bytes) known ∙ rw (built_length, lt-leb (at + length bytes) size (omega (arith, h, t.far))) refl)

        -- The bytes go to the end of what is built.
        pub turning_next : length bytes ≤ size - at → Turning (take at now ++ (bytes ++ drop (length bytes) (drop at now))) (at + length bytes) (more - 1)
        unfolding copying
        turning_next h =
            let front = take at now ++ bytes in
            let back = drop (length bytes) (drop at now) in
            let split : take at now ++ (bytes ++ back) ≡ front ++ back = sym (append_assoc (take at now) bytes back) in
            let size-front : length front ≡ at + length bytes = length-append (take at now) bytes ∙ ap (λ (k : ℕ). k + length bytes) built_length in
            let whole = length-append front back in
            let behind = length-drop (length bytes) (drop at now) in
            let behind' = length-drop at now in
            let taken : take (at + length bytes) (take at now ++ (bytes ++ back)) ≡ front = ap (take (at + length bytes)) split ∙ take_at front back (at + length bytes) size-front in
            record {
              room = t.room;
              far = omega (arith, h, t.far);
              few = omega (arith, t.few);
              less = omega (arith, t.less);
              long = ap length split ∙ omega (arith, whole, size-front, behind, behind', h, t.far, t.room, t.long);
              rest = ap (drop (at + length bytes)) split ∙ (drop_at front back (at + length bytes) size-front
                  ∙ (ap (drop (length bytes)) t.rest ∙ drop-drop (length bytes) at before));
              same = t.same ∙ (decided (some bytes) known
                  ∙ (rw (built_length, le-leb (at + length bytes) size (omega (arith, h, t.far))) refl
                  ∙ ap (λ (x : List ℕ). settle (look string nodes) size x (pile_of (more - 1) places)) (sym taken)));
            }

  -- The same of what was looked for.
  module _ (now : List ℕ) (at more : ℕ) (t : Turning now at more) (some_left : 0 < more) (id : ℕ) (top : id ≡ (get_or places (more - 1) empty).id) where
    pub not_there : look string nodes id ≡ none → (pending : ℕ) → pending ≡ more
        → Copies string nodes size before now built waiting places (Some (record { built = at; waiting = pending }))
    not_there e pending same = rw same (unknown now at more t some_left id top e)

    -- It was found at a place.
    module _ (p : Place) (f : Found string nodes id p) where
      pub too_much : size - at < p.size → settled_from string nodes size before built waiting places ≡ too_long
      too_much h =
          longer now at more t some_left id top (take p.size (drop p.start string)) f.is
          (let n = length_part string p.start p.size f.inside in omega (arith, n, h))

      pub copied : p.size ≤ size - at → (mid bytes part post : List ℕ) → Appended mid bytes part
          → mid ≡ take (length now - at) (drop at now) → bytes ≡ take (p.start + p.size - p.start) (drop p.start string)
          → post ≡ drop (length now - at) (drop at now) → Turning (take at now ++ (part ++ post)) (at + p.size) (more - 1)
      copied h mid bytes part post a mid-is bytes-is Post-is =
          let found = take p.size (drop p.start string) in
          let n : length found ≡ p.size = length_part string p.start p.size f.inside in
          let next = turning_next now at more t some_left id top found f.is (omega (arith, n, h)) in
          let d = length-drop at now in
          let all : take (length now - at) (drop at now) ≡ drop at now = take_all (length now - at) (drop at now) (omega (arith, d)) in
          let size_is : p.start + p.size - p.start ≡ p.size = omega arith in
          let nothing : post ≡ [] = Post-is ∙ drop_of_length-le (drop at now) {i = length now - at} (omega (arith, d)) in
          let taken : bytes ≡ found = bytes-is ∙ ap (λ (k : ℕ). take k (drop p.start string)) size_is in
          let written : part ++ post ≡ found ++ drop (length found) (drop at now) =
          ap (λ (x : List ℕ). part ++ x) nothing
          ∙ (append-nil part ∙ (a.is ∙ (λ i. taken i ++ drop (length (taken i)) ((mid-is ∙ all) i)))) in
          rw written
          (subst (λ (k : ℕ). Turning (take at now ++ (found ++ drop (length found) (drop at now))) (at + k) (more - 1)) n next)

  -- A way out with the output zeroed.
  pub zeroed : (now after : List ℕ) (r : Answer Copied) → settled_from string nodes size before built waiting places ≡ too_long
      → length now ≡ length before → Zeroed now after r → Copies string nodes size before after built waiting places r
  zeroed now after r e long z = rw z.answer (e, z.zeros ∙ ap (λ (k : ℕ). replicate k 0) long)

  pub no_room : (length before < size)
      ⊎ (((size ≤ length before) × (size < built))
      ⊎ ((size ≤ length before) × (built ≤ size) × (128 < waiting)))
      → settled_from string nodes size before built waiting places ≡ too_long
  unfolding settled_from
  no_room (inl short) = rw (lt-leb size (length before) short) refl
  no_room (inr (inl more)) = rw (le-leb size (length before) more.0, lt-leb built size more.1) refl
  no_room (inr (inr many)) = rw (le-leb size (length before) many.0, le-leb built size many.1, lt-leb waiting 128 many.2) refl
