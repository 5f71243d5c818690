-- What the rounds that are left come to is what all of them do.
use mathlib.Core.List.{List}
use mathlib.Core.Path.{◌≡◌, refl, sym, ap, ◌∙◌}
use Prim.Native.Nat.{ℕ, zero, suc, ◌≤◌, ◌<◌}
use native.Mathlib.Omega.{arith}
use borrow.Author.Tests.{ne_eqb}
use lib.ListN.{length}
use Rattle.tree.specs.declared.Settings.{Settings}
use Rattle.protocol.specs.Lent.{Lent}
use Rattle.protocol.specs.State.{State}
use Rattle.state.specs.declared.Receiver.{Receiver}
use Rattle.state.specs.declared.Taken.{Taken}
use Rattle.state.specs.Receivers.{state_of, progress_number}
use Rattle.session.specs.Session.{Standing, standing, round, rounds, end_of}
use Rattle.session.specs.Calls.{Stands, Exchanged, Ends, ExchangedAll}

-- The loop's invariant, with so many rounds left.
pub record Going (σ : Settings) (theirs ours₀ : Lent) (buffer₀ : List ℕ) (s₀ : Receiver) (ours : Lent) (buffer : List ℕ) (s : Receiver) (budget : ℕ) : Type 0
  where
    pub shingles_long : length ours.shingles ≡ length ours₀.shingles
    pub buffer_long : length buffer ≡ length buffer₀
    pub output_long : length ours.output ≡ length ours₀.output
    pub is : rounds budget σ theirs (standing 0 (state_of s) ours buffer) ≡ rounds 4097 σ theirs (standing 0 (state_of s₀) ours₀ buffer₀)

pub going_first : {σ : Settings} {theirs ours : Lent} {buffer : List ℕ} {s : Receiver} → Going σ theirs ours buffer s ours buffer s 4097
going_first = record { shingles_long = refl; buffer_long = refl; output_long = refl; is = refl }

standing_is : {now : Standing} {k : ℕ} {s : State} {m : Lent} {buffer : List ℕ} → k ≡ now.answer → s ≡ now.state → m ≡ now.lent
    → buffer ≡ now.buffer → now ≡ standing k s m buffer
standing_is a b c d = rw (a, b, c, d) refl

-- A round that answers something else than 0 is the last.
rounds_stop : (budget : ℕ) (σ : Settings) (theirs : Lent) (now : Standing) → (now.answer ≡ 0 → ⊥) → rounds budget σ theirs now ≡ now
unfolding rounds
rounds_stop zero σ theirs now last = refl
rounds_stop (suc budget) σ theirs now last = rw (ne_eqb now.answer 0 last) refl

no_round : (σ : Settings) (theirs : Lent) (now : Standing) → rounds zero σ theirs now ≡ now
unfolding rounds
no_round σ theirs now = refl

one_round : (budget : ℕ) (σ : Settings) (theirs : Lent) (s : State) (m : Lent) (buffer : List ℕ)
    → rounds (suc budget) σ theirs (standing 0 s m buffer) ≡ rounds budget σ theirs (round σ theirs s m buffer)
unfolding rounds
one_round budget σ theirs s m buffer = refl

ends_by : {all now : Standing} {ours : Lent} {buffer : List ℕ} {r : Taken} → now ≡ all → Stands now ours buffer r → Ends (end_of all) ours buffer (progress_number r.answer)
ends_by e stands = rw (← e) (record { answer = stands.answer; memory = stands.memory; buffer_is = stands.buffer_is })

ends_now : {all : Standing} {s : State} {ours : Lent} {buffer : List ℕ} → standing 0 s ours buffer ≡ all → Ends (end_of all) ours buffer 0
ends_now e = rw (← e) (record { answer = refl; memory = refl; buffer_is = refl })

module _ {σ : Settings} {theirs ours₀ : Lent} {buffer₀ : List ℕ} {s₀ : Receiver} {ours : Lent} {buffer : List ℕ} {s : Receiver} where
  -- The budget is used up.
  pub used_up : {budget : ℕ} → Going σ theirs ours₀ buffer₀ s₀ ours buffer s budget → budget ≤ 0
      → ExchangedAll σ s₀ theirs ours₀ ours buffer₀ buffer 0
  used_up {budget = zero} going none = record { ends = ends_now (sym (no_round σ theirs _) ∙ going.is) }
  used_up {budget = suc budget} going none = absurd (omega (arith, none))

  module _ {ours' : Lent} {buffer' : List ℕ} {r : Taken} (exchanged : Exchanged σ s theirs ours ours' buffer buffer' r) where
    pub last_round : {budget : ℕ} → Going σ theirs ours₀ buffer₀ s₀ ours buffer s budget → 0 < budget → (progress_number r.answer ≡ 0 → ⊥)
        → ExchangedAll σ s₀ theirs ours₀ ours' buffer₀ buffer' (progress_number r.answer)
    last_round {budget = zero} going some last = absurd (omega (arith, some))
    last_round {budget = suc budget} going some last =
        let stop = rounds_stop budget σ theirs _ (λ e. last (exchanged.stands.answer ∙ e)) in
        record { ends = ends_by (sym stop ∙ (sym (one_round budget σ theirs _ _ _) ∙ going.is)) exchanged.stands }

    pub next_round : {budget : ℕ} (left : ℕ) → Going σ theirs ours₀ buffer₀ s₀ ours buffer s budget → budget ≡ suc left → progress_number r.answer ≡ 0
        → length ours'.shingles ≡ length ours.shingles → length buffer' ≡ length buffer → length ours'.output ≡ length ours.output
        → Going σ theirs ours₀ buffer₀ s₀ ours' buffer' r.state left
    next_round left going more goes a b c =
        let stands = exchanged.stands in
        let now = standing_is (sym goes ∙ stands.answer) stands.state stands.memory stands.buffer_is in
        record {
          shingles_long = a ∙ going.shingles_long;
          buffer_long = b ∙ going.buffer_long;
          output_long = c ∙ going.output_long;
          is = ap (rounds left σ theirs) (sym now) ∙ (sym (one_round left σ theirs _ _ _) ∙ (rw more at going.is));
        }
