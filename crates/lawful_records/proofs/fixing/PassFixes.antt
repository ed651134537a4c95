-- What is fixed of a pass stays so under its own turn.
use Rattle.std.proofs.Common.{inl, inr, ◌≡◌, ℕ, ◌⊎◌, true, List, length, refl, sym, subst, arith}
use Rattle.std.proofs.Math.Decide.{dec_lt}
use Rattle.std.proofs.lemmas.List.{get_or_past}
use Rattle.heap_words.specs.Layouts.{Sizes}
use Rattle.heap_words.specs.declared.field_word.FieldWord.{FieldWord}
use Rattle.heap_words.specs.declared.field_word.FieldWord.TheVariants.{Num}
use Rattle.handshakes.specs.declared.follow.FollowMachine.TheVariants as follow
use Rattle.handshakes.specs.declared.phase_word.Phase.{Phase}
use Rattle.handshakes.specs.declared.phase_word.Phase.TheVariants as phases
use Rattle.handshakes.specs.declared.poll.PollMachine.{PollMachine}
use Rattle.handshakes.specs.declared.poll.PollMachine.TheVariants as poll
use Rattle.handshakes.specs.declared.poll.PollEnd.{PollEnd}
use Rattle.handshakes.specs.Polling.{Polled, said_to, held_in, HaveAnswered, HasPolled, IsPolling, IsRunning}
use Rattle.barriers.specs.Cycles.{Cycle}
use Rattle.barriers.specs.Kits.{Kit, Stepping, Laws}
use Rattle.barriers.specs.Knowns.{Known, Follows, spot_of, task_of}
use Rattle.barriers.specs.CallCloses.{IsTasked}
use Rattle.barriers.specs.Says.{Notices}
use Rattle.barriers.specs.Spaces.{Space, Holds}
use Rattle.barriers.specs.Stances.{Fix as Fix_stance, stance_at}
use Rattle.barriers.specs.States.{On}
use Rattle.barriers.specs.declared.pass.PassMachine.TheVariants as machine
use Rattle.barriers.proofs.words.Calls.{holds_fits}
use Rattle.handshakes.specs.declared.pass_view.PassView.{PassView}
use Rattle.heap_history.specs.declared.call.Call.{Call}
use Rattle.lawful_records.specs.declared.collector.CollectorMachine.{CollectorMachine}
use Rattle.lawful_records.specs.Fixing.{Names, is_fixed, IsFixedBy, IsFollowing, IsFixedCall, NamesHomes}
use Rattle.lawful_records.specs.Records.{view_by, registers_by}
use Rattle.lawful_records.proofs.calls.CallSteps.{CallStands}
use Rattle.lawful_records.proofs.calls.CallSteps.{WentOn, Fed, Led}
use Rattle.lawful_records.proofs.fixing.Answered.{stance_fix}
use Rattle.lawful_records.proofs.fixing.Calm.{IsCalm}
use Rattle.lawful_records.proofs.fixing.CallFixes.{followed_names, tasked_then, names_then}
use Rattle.lawful_records.proofs.fixing.Frames.{NamesOn, call_names}
use Rattle.lawful_records.proofs.fixing.Links.{link_names}
use Rattle.lawful_records.proofs.turns.Holding.{side_at}

-- what a poll makes of the word of a register
abbrev pub Follows_to : Space → FieldWord → FieldWord → Type 0
Follows_to s before now = On (Names s) now

pub polling_of : (s : Space) (x : Polled) (m : PollMachine) → IsRunning m → IsFollowing s x m → IsPolling (Follows_to s) x m
polling_of s x (poll.Ended end) runs is = absurd runs
polling_of s x (poll.Phase q) runs is = is
polling_of s x (poll.Mark q word) runs is = is
polling_of s x (poll.Follow q word register birth at) runs is = is
polling_of s x (poll.Acknowledge q word mark) runs is = is

pub following_of : (s : Space) (x : Polled) (m : PollMachine) → IsPolling (Follows_to s) x m → IsFollowing s x m
following_of s x (poll.Ended end) is = tt
following_of s x (poll.Phase q) is = is
following_of s x (poll.Mark q word) is = is
following_of s x (poll.Follow q word register birth at) is = is
following_of s x (poll.Acknowledge q word mark) is = is

module _ {M : Type 0} (k : CollectorMachine M) (s : Space) (calm : is_fixed k ≡ true → IsCalm s) where
  -- ---- a call

  module _ {R W E : Type 0} (kit : Kit R W E M) (by : Stepping R W E M) (laws : Laws kit by) (l : Sizes) (c : Cycle) (n : Notices) (memory : ℕ → ℕ) (v : PassView) (seen : List Call) (t : Space) (on : NamesOn s t) where
    calm_or : IsFixedBy k v.acked → IsCalm s ⊎ (stance_at v.acked ≡ Fix_stance)
    calm_or (inl fixed) = inl (calm fixed)
    calm_or (inr fix) = inr fix

    pub call_on : (x then : Known) → CallStands kit l c s n memory v seen x → WentOn kit c s memory v seen x then → IsFixedCall kit k s v.acked x → IsFixedCall kit k t v.acked then
    call_on x then stands (Fed at is) fixed = (
      subst IsTasked (sym is) (tasked_then kit.protocol laws.table laws.cycle c s (side_at kit v seen) x stands.objects stands.lens stands.side stands.call at fixed.0),
      λ fixed_by. subst (NamesHomes t) (sym is) (call_names s t on _ (names_then kit.protocol laws.table laws.cycle c s (side_at kit v seen) x stands.objects stands.lens stands.side stands.call at (fixed.1 fixed_by) fixed.0 (calm_or fixed_by))),
    )
    call_on x then stands (Led birth at its is) fixed =
        let held : CallStands kit l c s n memory v seen (Follows (spot_of x) (task_of x) (follow.Header birth at)) = subst (CallStands kit l c s n memory v seen) its stands in
        let holds : Holds s birth at = held.call.hand in
        let names = link_names l memory c s n stands.rows stands.says stands.objects birth at (holds_fits l memory s n stands.rows stands.says stands.layout birth at holds) holds in
        (subst IsTasked (sym is) tt, λ fixed_by. subst (NamesHomes t) (sym is) (call_names s t on _ (followed_names s (spot_of x) (task_of x) birth _ names)))

  -- ---- a poll

  module _ (x : Polled) where
    -- the registers before
    abbrev Held : Type 0
    Held = IsFixedBy k (let view = x.view in view.acked) → (i : ℕ) → On (Names s) (held_in x.registers i)

    answered_names : Held → (phase : Phase) → (said_to x).phase ≡ phase → (now : List FieldWord) → HaveAnswered (Follows_to s) phase x.registers now → IsFixedBy k x.announced → (i : ℕ) → On (Names s) (held_in now i)
    answered_names held phases.Fix e now done fixed_by i = elim (dec_lt i (length x.registers)) [
      | yes small ↦ done.below i small
      | no past ↦ rw (done.others i (omega arith), get_or_past x.registers i (Num 0) (omega arith)) tt
    ]
    answered_names held phase e now done fixed_by i = rw done (elim fixed_by [
      | inl fixed ↦ held (inl fixed) i
      | inr fix ↦ absurd (let same = stance_fix x.announced fix in cc (e, same))
    ])

    -- and after its end
    ended_names : Held → (end : PollEnd) → HasPolled (Follows_to s) x end → IsFixedBy k (let view = end.view in view.acked) → (i : ℕ) → On (Names s) (held_in end.registers i)
    ended_names held end (inl known) fixed_by i = rw known.2 (held (rw known.1 at fixed_by) i)
    ended_names held end (inr done) fixed_by i = answered_names held (said_to x).phase refl end.registers done.2 (rw done.1 at fixed_by) i

    pub poll_names : (R W E : Type 0) → Held → (m : PollMachine) → IsPolling (Follows_to s) x m → IsFixedBy k (let view = view_by {R = R} {W = W} {E = E} (machine.Poll m) x.view in view.acked) → (i : ℕ) → On (Names s) (held_in (registers_by {R = R} {W = W} {E = E} (machine.Poll m) x.registers) i)
    poll_names R W E held (poll.Ended end) is fixed_by i = ended_names held end is fixed_by i
    poll_names R W E held (poll.Phase q) is fixed_by i = held fixed_by i
    poll_names R W E held (poll.Mark q word) is fixed_by i = held fixed_by i
    poll_names R W E held (poll.Follow q word register birth at) is fixed_by i = held fixed_by i
    poll_names R W E held (poll.Acknowledge q word mark) is fixed_by i = held fixed_by i
