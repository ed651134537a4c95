-- What a poll knows and holds after each of its steps, and after those of others.
use Rattle.std.proofs.Common.{◌≡◌, ◌≢◌, ℕ, ◌+◌, ◌<◌, ◌≤◌, ◌==◌, inl, inr, refl, sym, ap, ◌∙◌, subst, arith, Bool, true, false, List, ◌∷◌, length, get_or, set, drop, if◌then◌else◌, zero, suc, get_or-set_same, get_or-set_other, length-set, []}
use Rattle.std.proofs.lemmas.Bool.{eqb-true, eq-eqb, ne_eqb, cases_eq}
use Rattle.std.proofs.lemmas.List.{get_or_past}
use Rattle.heap_words.specs.declared.field_word.FieldWord.{FieldWord}
use Rattle.heap_words.specs.declared.field_word.FieldWord.TheVariants.{Num, Link}
use Rattle.object_headers.specs.Headers.{header_at}
use Rattle.handshakes.specs.declared.phase_word.Phase.{Phase}
use Rattle.handshakes.specs.declared.phase_word.Phase.TheVariants.{Free, Mark, Confirm, Copy, Fix, Retired}
use Rattle.handshakes.specs.declared.phase_word.PhaseWord.{PhaseWord}
use Rattle.handshakes.specs.declared.pass_view.PassView.{PassView}
use Rattle.handshakes.specs.declared.poll.Poll.{Poll}
use Rattle.handshakes.specs.declared.poll.PollMachine.{PollMachine}
use Rattle.handshakes.specs.declared.poll.PollMachine.TheVariants as poll
use Rattle.handshakes.specs.PhaseWords.{phase_word_at}
use Rattle.handshakes.specs.Follows.{place_by}
use Rattle.handshakes.specs.Polls.{fed_of, follow_from, begin_by, followed, rest_after, ended}
use Rattle.handshakes.specs.Polling.{Polled, mark_by, said_to, held_in, AreFollowed, HaveAnswered, IsPollWith, IsPollOf, IsFollowedAt, IsPolling, IsRunning, PollFinds}

-- ---- registers

drop-next : {X : Type 0} (xs : List X) (i : ℕ) (x : X) (rest : List X) → x ∷ rest ≡ drop i xs → rest ≡ drop (i + 1) xs
drop-next [] zero x rest e = absurd cc
drop-next [] (suc i) x rest e = absurd cc
drop-next (y ∷ ys) zero x rest e = cc
drop-next (y ∷ ys) (suc i) x rest e = let same : suc i + 1 ≡ suc (i + 1) = omega arith in drop-next ys i x rest e ∙ ap (λ n. drop n (y ∷ ys)) (sym same)

drop-here : {X : Type 0} (xs : List X) (i : ℕ) (x d : X) (rest : List X) → x ∷ rest ≡ drop i xs → (i < length xs) × (get_or xs i d ≡ x)
drop-here [] zero x d rest e = absurd cc
drop-here [] (suc i) x d rest e = absurd cc
drop-here (y ∷ ys) zero x d rest e = (omega arith, cc)
drop-here (y ∷ ys) (suc i) x d rest e = let h = drop-here ys i x d rest e in (omega (arith, h.0), h.1)

drop-over : {X : Type 0} (xs : List X) (i : ℕ) → [] ≡ drop i xs → length xs ≤ i
drop-over [] i e = omega arith
drop-over (y ∷ ys) zero e = absurd cc
drop-over (y ∷ ys) (suc i) e = let h = drop-over ys i e in omega (arith, h)

module _ (R : FieldWord → FieldWord → Type 0) (nums : (n : ℕ) → R (Num n) (Num n)) where
  -- none is followed yet
  none_followed : (registers : List FieldWord) → AreFollowed R registers registers 0
  none_followed registers = record { as_many = refl; below = λ i small. absurd (omega (arith, small)); others = λ i above. refl }

  -- a register that holds a number stays as it is
  followed_number : (registers now : List FieldWord) (from n : ℕ) → AreFollowed R registers now from → held_in now from ≡ Num n → AreFollowed R registers now (from + 1)
  followed_number registers now from n are number = record {
    as_many = are.as_many;
    below = λ i small. elim (cases_eq i from) [
      | inl same ↦
          let here : held_in now i ≡ Num n = ap (held_in now) same ∙ number in
          let was : held_in registers i ≡ Num n = sym (are.others i (omega (arith, same))) ∙ here in
          subst (λ (w : FieldWord). R w (held_in now i)) (sym was) (subst (R (Num n)) (sym here) (nums n))
      | inr other ↦ are.below i (omega (arith, small, other))
    ];
    others = λ i above. are.others i (omega (arith, above));
  }

  -- a link has become what the header says
  followed_link : (registers now : List FieldWord) (from birth at next : ℕ) → AreFollowed R registers now from → from < length registers → held_in registers from ≡ Link birth at → R (Link birth at) (Link birth next) → AreFollowed R registers (set now from (Link birth next)) (from + 1)
  followed_link registers now from birth at next are small link becomes = record {
    as_many = length-set now from (Link birth next) ∙ are.as_many;
    below = λ i below. elim (cases_eq i from) [
      | inl same ↦
          let here : held_in (set now from (Link birth next)) i ≡ Link birth next = ap (held_in (set now from (Link birth next))) same ∙ get_or-set_same now from (Link birth next) (Num 0) (omega (arith, are.as_many, small)) in
          let was : held_in registers i ≡ Link birth at = ap (held_in registers) same ∙ link in
          subst (λ (w : FieldWord). R w (held_in (set now from (Link birth next)) i)) (sym was) (subst (R (Link birth at)) (sym here) becomes)
      | inr other ↦ subst (R (held_in registers i)) (sym (get_or-set_other now from i (Link birth next) (Num 0) other)) (are.below i (omega (arith, below, other)))
    ];
    others = λ i above. get_or-set_other now from i (Link birth next) (Num 0) (λ e. omega (arith, e, above)) ∙ are.others i (omega (arith, above));
  }

  -- all registers there are
  followed_all : (registers now : List FieldWord) (from : ℕ) → AreFollowed R registers now from → length registers ≤ from → AreFollowed R registers now (length registers)
  followed_all registers now from are over = record {
    as_many = are.as_many;
    below = λ i small. are.below i (omega (arith, small, over));
    others = λ i above. get_or_past now i (Num 0) (omega (arith, are.as_many, above)) ∙ sym (get_or_past registers i (Num 0) above);
  }

  -- ---- its step

  module _ (x : Polled) where
    -- the phase's work is done
    acknowledges : (phase : Phase) (p : Poll) (word mark : ℕ) → IsPollWith x p word → (said_to x).phase ≡ phase → HaveAnswered R phase x.registers p.registers → mark ≡ mark_by phase (said_to x).round x.view.mark x.mark → IsPolling R x (poll.Acknowledge p word mark)
    acknowledges phase p word mark is says done mark_is =
        (is, subst (λ (q : Phase). HaveAnswered R q x.registers p.registers) (sym says) done, mark_is ∙ ap (λ (q : Phase). mark_by q (said_to x).round x.view.mark x.mark) (sym says))

    -- the registers from one on are followed
    follows_from : (p : Poll) (word : ℕ) → IsPollWith x p word → (said_to x).phase ≡ Fix → (rest : List FieldWord) (register : ℕ) → rest ≡ drop register p.registers → AreFollowed R x.registers p.registers register → IsPolling R x (follow_from p word register rest)
    follows_from p word is fix [] register e are =
        acknowledges Fix p word p.view.mark is fix (followed_all x.registers p.registers register are (omega (arith, are.as_many, drop-over p.registers register e))) (ap (λ (v : PassView). v.mark) is.view_is)
    follows_from p word is fix (Num n ∷ rest) register e are =
        let here = drop-here p.registers register (Num n) (Num 0) rest e in
        follows_from p word is fix rest (register + 1) (drop-next p.registers register (Num n) rest e) (followed_number x.registers p.registers register n are here.1)
    follows_from p word is fix (Link birth at ∷ rest) register e are =
        let here = drop-here p.registers register (Link birth at) (Num 0) rest e in
        (is, record { fix = fix; small = omega (arith, here.0, are.as_many); link = sym (are.others register (omega arith)) ∙ here.1; followed = are })

    module _ (p : Poll) (word : ℕ) (is : IsPollWith x p word) (same : p.registers ≡ x.registers) where
      own : p.view.mark ≡ x.view.mark
      own = ap (λ (v : PassView). v.mark) is.view_is

      copies : (round : ℕ) → (said_to x).phase ≡ Copy → (said_to x).round ≡ round → (none : Bool) → (round == 0) ≡ none → IsPolling R x (if none then poll.Acknowledge p word p.view.mark else poll.Mark p word)
      copies round says round_is true e = acknowledges Copy p word p.view.mark is says same (own ∙ rw (round_is, e) refl)
      copies round says round_is false e = (is, same, says, λ none. absurd (cc (eq-eqb round 0 (sym round_is ∙ none), e)))

      -- what the announced word asks for
      begins_by : (phase : Phase) (round : ℕ) → (said_to x).phase ≡ phase → (said_to x).round ≡ round → IsPolling R x (begin_by phase round p word)
      begins_by Free round says round_is = acknowledges Free p word 0 is says same refl
      begins_by Mark round says round_is = acknowledges Mark p word p.view.mark is says same own
      begins_by Confirm round says round_is = acknowledges Confirm p word p.view.mark is says same own
      begins_by Copy round says round_is = copies round says round_is (round == 0) refl
      begins_by Fix round says round_is = follows_from p word is says p.registers 0 refl (subst (λ (rs : List FieldWord). AreFollowed R x.registers rs 0) (sym same) (none_followed x.registers))
      begins_by Retired round says round_is = acknowledges Retired p word p.view.mark is says same own

    -- the phase word was loaded
    loaded : (p : Poll) (found : ℕ) → IsPollOf x p → found ≡ x.announced → (known : Bool) → (found == p.view.acked) ≡ known
        → IsPolling R x (if known then ended p.view p.registers else begin_by (phase_word_at found).phase (phase_word_at found).round p found)
    loaded p found is finds true e =
        let acked : found ≡ x.view.acked = eqb-true found p.view.acked e ∙ ap (λ (v : PassView). v.acked) is.view_is in
        inl (sym acked ∙ finds, is.view_is, is.registers_are)
    loaded p found is finds false e =
        let other : x.view.acked ≢ x.announced = λ same. absurd (cc (eq-eqb found p.view.acked (finds ∙ (sym same ∙ ap (λ (v : PassView). v.acked) (sym is.view_is))), e)) in
        let with : IsPollWith x p found = record { mark_at_is = is.mark_at_is; ack_at_is = is.ack_at_is; view_is = is.view_is; announced_is = finds; acked_not = other } in
        let says : phase_word_at x.announced ≡ phase_word_at found = ap phase_word_at (sym finds) in
        begins_by p found with is.registers_are (phase_word_at found).phase (phase_word_at found).round (ap (λ (q : PhaseWord). q.phase) says) (ap (λ (q : PhaseWord). q.round) says)

    -- the header of a register's object was loaded
    went : (p : Poll) (word register birth at next : ℕ) → IsPollWith x p word → IsFollowedAt R x p register birth at → R (Link birth at) (Link birth next)
        → IsPolling R x (follow_from (followed p register birth next) word (register + 1) (rest_after (followed p register birth next) register))
    went p word register birth at next is here becomes =
        let with : IsPollWith x (followed p register birth next) word = record { mark_at_is = is.mark_at_is; ack_at_is = is.ack_at_is; view_is = is.view_is; announced_is = is.announced_is; acked_not = is.acked_not } in
        follows_from (followed p register birth next) word with here.fix (rest_after (followed p register birth next) register) (register + 1) refl
        (followed_link x.registers p.registers register birth at next here.followed here.small here.link becomes)

    -- the acknowledgement was stored
    acknowledged : (p : Poll) (word mark : ℕ) → IsPolling R x (poll.Acknowledge p word mark) → IsPolling R x (fed_of (poll.Acknowledge p word mark) 0)
    acknowledged p word mark is =
        let pass : p.view.pass ≡ x.view.pass = ap (λ (v : PassView). v.pass) is.0.view_is in
        inr (is.0.acked_not, rw (pass, is.0.announced_is, is.2) refl, is.1)

    -- each step of a poll
    pub poll_goes_on : (m : PollMachine) (found : ℕ) → IsPolling R x m → PollFinds R x m found → IsPolling R x (fed_of m found)
    poll_goes_on (poll.Phase p) found is finds = loaded p found is finds (found == p.view.acked) refl
    poll_goes_on (poll.Mark p word) found is finds =
        let round : ((said_to x).round == 0) ≡ false = ne_eqb (said_to x).round 0 is.3 in
        acknowledges Copy p word found is.0 is.2 is.1 (finds ∙ rw round refl)
    poll_goes_on (poll.Follow p word register birth at) found is finds = went p word register birth at (place_by (header_at found) at) is.0 is.1 finds
    poll_goes_on (poll.Acknowledge p word mark) found is finds = acknowledged p word mark is
    poll_goes_on (poll.Ended e) found is finds = is

-- ---- steps of others

-- R says more, as where an object has moved since
followed_weaker : (R S : FieldWord → FieldWord → Type 0) → ((v w : FieldWord) → R v w → S v w) → (registers now : List FieldWord) (from : ℕ) → AreFollowed R registers now from → AreFollowed S registers now from
followed_weaker R S more registers now from are = record { as_many = are.as_many; below = λ i small. more (held_in registers i) (held_in now i) (are.below i small); others = are.others }

answered_weaker : (R S : FieldWord → FieldWord → Type 0) → ((v w : FieldWord) → R v w → S v w) → (phase : Phase) (registers now : List FieldWord) → HaveAnswered R phase registers now → HaveAnswered S phase registers now
answered_weaker R S more Free registers now are = are
answered_weaker R S more Mark registers now are = are
answered_weaker R S more Confirm registers now are = are
answered_weaker R S more Copy registers now are = are
answered_weaker R S more Fix registers now are = followed_weaker R S more registers now (length registers) are
answered_weaker R S more Retired registers now are = are

-- what the poll knows it knows of a relation that R implies
pub poll_weaker : (R S : FieldWord → FieldWord → Type 0) → ((v w : FieldWord) → R v w → S v w) → (x : Polled) (m : PollMachine) → IsPolling R x m → IsPolling S x m
poll_weaker R S more x (poll.Phase p) is = is
poll_weaker R S more x (poll.Mark p word) is = is
poll_weaker R S more x (poll.Follow p word register birth at) is =
    (is.0, record { fix = is.1.fix; small = is.1.small; link = is.1.link; followed = followed_weaker R S more x.registers p.registers register is.1.followed })
poll_weaker R S more x (poll.Acknowledge p word mark) is = (is.0, answered_weaker R S more (said_to x).phase x.registers p.registers is.1, is.2)
poll_weaker R S more x (poll.Ended e) is = elim is [ inl known ↦ inl known | inr done ↦ inr (done.0, done.1, answered_weaker R S more (said_to x).phase x.registers e.registers done.2) ]

-- another word may be announced, and the mark word drawn, only where the pass has acknowledged the announced one
pub poll_hears : (R : FieldWord → FieldWord → Type 0) (x : Polled) (announced mark : ℕ) → (x.view.acked ≢ x.announced → (announced ≡ x.announced) × (mark ≡ x.mark)) → (m : PollMachine) → IsRunning m → IsPolling R x m → IsPolling R (record x { announced = announced; mark = mark }) m
poll_hears R x announced mark waits (poll.Phase p) runs is =
    record { phase_at_is = is.phase_at_is; mark_at_is = is.mark_at_is; ack_at_is = is.ack_at_is; view_is = is.view_is; registers_are = is.registers_are }
poll_hears R x announced mark waits (poll.Mark p word) runs is = let same = waits is.0.acked_not in rw (same.0, same.1) is
poll_hears R x announced mark waits (poll.Follow p word register birth at) runs is = let same = waits is.0.acked_not in rw (same.0, same.1) is
poll_hears R x announced mark waits (poll.Acknowledge p word m) runs is = let same = waits is.0.acked_not in rw (same.0, same.1) is
poll_hears R x announced mark waits (poll.Ended e) runs is = absurd runs
