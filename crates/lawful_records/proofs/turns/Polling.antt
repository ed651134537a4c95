-- What a poll's step makes of its pass's registers, and what it knows after it.
use Rattle.std.proofs.Common.{◌≡◌, ℕ, ◌+◌, ◌==◌, inl, inr, Bool, true, false, List, [], ◌∷◌, length, if◌then◌else◌, Some, None, refl, sym, ap, subst, arith}
use Rattle.std.proofs.Math.Decide.{dec_lt}
use Rattle.heap_words.specs.declared.field_word.FieldWord.{FieldWord}
use Rattle.heap_words.specs.declared.field_word.FieldWord.TheVariants.{Num, Link}
use Rattle.handshakes.specs.declared.phase_word.Phase.{Phase}
use Rattle.handshakes.specs.declared.phase_word.Phase.TheVariants.{Copy, Fix}
use Rattle.handshakes.specs.declared.poll.Poll.{Poll}
use Rattle.handshakes.specs.declared.poll.PollMachine.{PollMachine}
use Rattle.handshakes.specs.declared.poll.PollMachine.TheVariants as poll
use Rattle.handshakes.specs.Polls.{fed_of, follow_from, begin_by}
use Rattle.handshakes.specs.Polling.{Polled, said_to, held_in, AreFollowed, HaveAnswered, IsPolling, IsRunning, PollFinds}
use Rattle.handshakes.specs.PollingLaws.{poll_goes_on, poll_weaker}
use Rattle.barriers.specs.Kits.{own_of}
use Rattle.barriers.specs.Protocols.{OnHand}
use Rattle.barriers.specs.Spaces.{Space}
use Rattle.handshakes.specs.declared.pass_view.PassView.{PassView}
use Rattle.lawful_records.specs.LawfulRecords.{IsGood, IsMoved}

-- ---- the poll's step

-- a good word becomes the same by value, with its link going to where the object is
abbrev pub Becomes : Space → FieldWord → FieldWord → Type 0
Becomes s before now = IsGood s before → IsMoved s before now

number_becomes : (s : Space) (n : ℕ) → Becomes s (Num n) (Num n)
number_becomes s n good = record { value = refl; good = good }

module _ (s : Space) (x : Polled) (good : (i : ℕ) → IsGood s (held_in x.registers i)) where
  followed_good : (now : List FieldWord) (from : ℕ) → AreFollowed (Becomes s) x.registers now from → AreFollowed (IsMoved s) x.registers now from
  followed_good now from are = record { as_many = are.as_many; below = λ i small. are.below i small (good i); others = are.others }

  answered_good : (phase : Phase) (now : List FieldWord) → HaveAnswered (Becomes s) phase x.registers now → HaveAnswered (IsMoved s) phase x.registers now
  answered_good Fix now are = followed_good now (length x.registers) are
  answered_good phase now are = are

  polling_good : (m : PollMachine) → IsPolling (Becomes s) x m → IsPolling (IsMoved s) x m
  polling_good (poll.Follow p word register birth at) is =
      (is.0, record { fix = is.1.fix; small = is.1.small; link = is.1.link; followed = followed_good p.registers register is.1.followed })
  polling_good (poll.Acknowledge p word mark) is = (is.0, answered_good (said_to x).phase p.registers is.1, is.2)
  polling_good (poll.Ended e) is = elim is [ inl known ↦ inl known | inr done ↦ inr (done.0, done.1, answered_good (said_to x).phase e.registers done.2) ]
  polling_good m is = is

  -- after each step it knows what its state says
  pub poll_next : (m : PollMachine) (found : ℕ) → IsPolling (IsMoved s) x m → PollFinds (Becomes s) x m found → IsPolling (IsMoved s) x (fed_of m found)
  poll_next m found is finds =
      polling_good (fed_of m found) (poll_goes_on (Becomes s) (number_becomes s) x m found (poll_weaker (IsMoved s) (Becomes s) (λ v w moved held. moved) x m is) finds)

  -- ---- the registers after it

  module _ (now : List FieldWord) where
    followed_moved : AreFollowed (IsMoved s) x.registers now (length x.registers) → (i : ℕ) → IsMoved s (held_in x.registers i) (held_in now i)
    followed_moved are i = elim (dec_lt i (length x.registers)) [
      | yes small ↦ are.below i small
      | no past ↦ let same : held_in now i ≡ held_in x.registers i = are.others i (omega arith) in subst (IsMoved s (held_in x.registers i)) (sym same) (record { value = refl; good = good i })
    ]

    same_moved : now ≡ x.registers → (i : ℕ) → IsMoved s (held_in x.registers i) (held_in now i)
    same_moved same i = subst (λ (rs : List FieldWord). IsMoved s (held_in x.registers i) (held_in rs i)) (sym same) (record { value = refl; good = good i })

    pub answered_moved : (phase : Phase) → HaveAnswered (IsMoved s) phase x.registers now → (length now ≡ length x.registers) × ((i : ℕ) → IsMoved s (held_in x.registers i) (held_in now i))
    answered_moved Fix are = (are.as_many, followed_moved are)
    answered_moved phase are = (ap length are, same_moved are)

-- ---- it goes on, or has ended

pub follow_runs : (p : Poll) (word register : ℕ) (rest : List FieldWord) → IsRunning (follow_from p word register rest)
follow_runs p word register [] = tt
follow_runs p word register (Num n ∷ rest) = follow_runs p word (register + 1) rest
follow_runs p word register (Link birth at ∷ rest) = tt

copy_runs : (p : Poll) (word : ℕ) (none : Bool) → IsRunning (if none then poll.Acknowledge p word p.view.mark else poll.Mark p word)
copy_runs p word true = tt
copy_runs p word false = tt

pub begin_runs : (phase : Phase) (round : ℕ) (p : Poll) (word : ℕ) → IsRunning (begin_by phase round p word)
begin_runs Copy round p word = copy_runs p word (round == 0)
begin_runs Fix round p word = follow_runs p word 0 p.registers
begin_runs phase round p word = tt

-- ---- marks

-- a pass's mark is a number
pub own_number : (minds : Bool) (view : PassView) → OnHand (λ b a. ⊥) (own_of minds view)
own_number true view = by (view.mark == 0)
  where
    by : (none : Bool) → OnHand (λ b a. ⊥) (if none then None else Some (Num view.mark))
    by true = tt
    by false = tt
own_number false view = tt
