-- Lists of calls: if each call keeps these laws, something is handed over exactly when each query has had a reply delivered. What a call
-- does is not opened here.
use mathlib.Core.Bool.{Bool, true, false}
use mathlib.Core.List.{List, [], ◌∷◌}
use mathlib.Core.Logic.{◌⊎◌, inl, inr, ⊎_elim}
use mathlib.Core.Path.{◌≡◌, refl, ap, subst, ◌∙◌}
use Prim.Native.Nat.{ℕ, suc, ◌≤◌}
use native.Mathlib.Omega.{arith}
use Rattle.entries.proofs.Linear.{both}
use Rattle.protocol.specs.State.{State, running}
use Rattle.protocol.specs.Receiver.{Answer, refused, waiting, handed, wrote}
use Rattle.protocol.proofs.Cases.{either}
use Rattle.protocol.specs.Calls.{Call, step, Event, event, accepts, counting, events, Every, Some, EveryPoint}

-- The call hands a string over.
unfoldable pub hands : Answer → Bool
hands (refused k) = false
hands waiting = false
hands (handed n) = true
hands (wrote n) = false

abbrev pub HandsSome : Event → Type 0
HandsSome e = hands e.result.answer ≡ true

-- Claims on events.
points_map : {P Q : ℕ → State → Type 0} (k : ℕ) (s : State) (cs : List Call) → ((k : ℕ) (s : State) → P k s → Q k s)
    → EveryPoint P k s cs → EveryPoint Q k s cs
unfolding EveryPoint
points_map k s [] f h = f k s h
points_map k s (c ∷ cs) f h = (f k s h.0, points_map (counting (accepts (event k s c)) k) (step s c).state cs f h.1)

module _ (Delivered : Event → Type 0) where
  -- The laws of one call.
  pub record Lawful (e : Event) : Type 0 where
    pub same : accepts e ≡ false → e.result.state ≡ e.before
    pub sound : accepts e ≡ true → Delivered e
    pub complete : Delivered e → accepts e ≡ true
    pub alive : accepts e ≡ true → hands e.result.answer ≡ false → running e.result.state ≡ true
    pub dead : HandsSome e → (accepts e ≡ true) × (running e.result.state ≡ false)
    pub idle : running e.before ≡ false → accepts e ≡ false

  abbrev Answers : ℕ → Event → Type 0
  Answers k e = (e.count ≡ k) × Delivered e

  abbrev Answered : List Event → ℕ → State → Type 0
  Answered es k t = running t ≡ true → Some (Answers k) es

  counted : (t : Bool) (k : ℕ) → t ≡ true → counting t k ≡ suc k
  unfolding counting
  counted true k e = refl
  counted false k e = absurd (both e refl)

  uncounted : (t : Bool) (k : ℕ) → t ≡ false → counting t k ≡ k
  unfolding counting
  uncounted true k e = absurd (both refl e)
  uncounted false k e = refl

  -- After the end nothing runs.
  stays_ended : (W : List Event) (k : ℕ) (s : State) (cs : List Call) → running s ≡ false → Every Lawful (events k s cs) → EveryPoint (Answered W) k s cs
  unfolding events Every EveryPoint
  stays_ended W k s [] h laws = λ r. absurd (both r h)
  stays_ended W k s (c ∷ cs) h laws =
      let e = event k s c in
      let still : running (step s c).state ≡ false = ap running (laws.0.same (laws.0.idle h)) ∙ h in
      (λ r. absurd (both r h), stays_ended W (counting (accepts e) k) (step s c).state cs still laws.1)

  -- If something is handed over, the query outstanding at the start has had its reply.
  first_answer : (k : ℕ) (s : State) (cs : List Call) → Every Lawful (events k s cs) → Some HandsSome (events k s cs) → Some (Answers k) (events k s cs)
  unfolding events Every Some
  first_answer k s [] laws h = h
  first_answer k s (c ∷ cs) laws h =
      let e = event k s c in
      either (accepts e)
      (λ a. inl (refl, laws.0.sound a))
      (λ a.
      let rest = events (counting (accepts e) k) (step s c).state cs in
      inr (subst (λ (j : ℕ). Some (Answers j) rest) (uncounted (accepts e) k a)
      (first_answer (counting (accepts e) k) (step s c).state cs laws.1
      (⊎_elim (λ g. absurd (both (laws.0.dead g).0 a)) (λ g. g) h))))

  pub only_then : (k : ℕ) (s : State) (cs : List Call) → Every Lawful (events k s cs) → Some HandsSome (events k s cs)
      → EveryPoint (Answered (events k s cs)) k s cs
  unfolding events Every Some EveryPoint
  only_then k s [] laws h = absurd h
  only_then k s (c ∷ cs) laws h =
      let e = event k s c in (
        λ r. first_answer k s (c ∷ cs) laws h,
        ⊎_elim
            (λ g. stays_ended (events k s (c ∷ cs)) (counting (accepts e) k) (step s c).state cs (laws.0.dead g).1 laws.1)
            (λ g. points_map (counting (accepts e) k) (step s c).state cs (λ j t p r. inr (p r))
            (only_then (counting (accepts e) k) (step s c).state cs laws.1 g))
            h,
      )

  -- If each query has had one, the session cannot still run at the end. W is the whole list: from k on, its answers lie in what is left.
  ends_handed : (W : List Event) (k : ℕ) (s : State) (cs : List Call) → Every Lawful (events k s cs) → running s ≡ true
      → ((j : ℕ) → k ≤ j → Some (Answers j) W → Some (Answers j) (events k s cs)) → EveryPoint (Answered W) k s cs → Some HandsSome (events k s cs)
  unfolding events Every Some EveryPoint
  ends_handed W k s [] laws runs within points = within k (omega arith) (points runs)
  ends_handed W k s (c ∷ cs) laws runs within points =
      let e = event k s c in
      let s' = (step s c).state in
      let k' = counting (accepts e) k in
      either (hands e.result.answer)
      (λ g. inl g)
      (λ g. inr (either (accepts e)
      (λ a.
      let next = counted (accepts e) k a in
      ends_handed W k' s' cs laws.1 (laws.0.alive a g)
      (λ j le some. ⊎_elim (λ b. absurd (omega (arith, b.0, next, le))) (λ t. t) (within j (omega (arith, next, le)) some))
      points.1)
      (λ a.
      let stay = uncounted (accepts e) k a in
      ends_handed W k' s' cs laws.1 (ap running (laws.0.same a) ∙ runs)
      (λ j le some. ⊎_elim (λ b. absurd (both (laws.0.complete b.1) a)) (λ t. t) (within j (omega (arith, stay, le)) some))
      points.1)))

  pub then : (k : ℕ) (s : State) (cs : List Call) → Every Lawful (events k s cs) → running s ≡ true
      → EveryPoint (Answered (events k s cs)) k s cs → Some HandsSome (events k s cs)
  then k s cs laws runs points = ends_handed (events k s cs) k s cs laws runs (λ j le some. some) points
