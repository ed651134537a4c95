-- A read of an object at rest does what is known of it.
use Rattle.std.specs.Prelude.{◌≡◌, ℕ, nat_lt, if◌then◌else◌, Bool, true, false, Some, None, refl}
use Rattle.std.proofs.Common.{ap, sym, subst, ◌∙◌}
use Rattle.call_steps.specs.declared.step.Step.TheVariants.{Ended}
use Rattle.heap_words.specs.declared.field_word.FieldWord.{FieldWord}
use Rattle.heap_words.specs.FieldWords.{IsFieldWord, word_of, field_at}
use Rattle.heap_words.specs.FieldWordLaws.{field_at-word_of}
use Rattle.object_headers.specs.declared.header.Colour.{Colour}
use Rattle.object_headers.specs.Headers.{header_at}
use Rattle.object_headers.specs.HeaderLaws.{header_at-word_of_header}
use Rattle.handshakes.specs.declared.pass_view.PassView.{PassView}
use Rattle.handshakes.specs.declared.phase_word.Phase.{Phase}
use Rattle.handshakes.specs.Follows as follows
use Rattle.handshakes.specs.declared.follow.FollowMachine.{FollowMachine}
use Rattle.handshakes.specs.declared.follow.FollowMachine.TheVariants as follow
use Rattle.barriers.specs.declared.spot.Spot.{Spot}
use Rattle.barriers.specs.declared.front.Front.TheVariants.{Stays}
use Rattle.barriers.specs.declared.read.ReadMachine.{ReadMachine}
use Rattle.barriers.specs.declared.read.ReadMachine.TheVariants as read
use Rattle.barriers.specs.States.{State}
use Rattle.barriers.specs.Stances.{Stance, stance_at, phase_of}
use Rattle.barriers.specs.Spaces.{Here}
use Rattle.barriers.specs.Knowns.{Task, Reads, Ending, Got, Loads, Follows, Over, at_field, finds, looks, step_of, followed, closes}
use Rattle.barriers.specs.KnownLaws.{phase_of-stance_at}
use Rattle.barriers.specs.PlainCalls.{where_field}
use Rattle.barriers.specs.Says.{IsPacked}
use Rattle.barriers.specs.Reads as machine_of_read
use Rattle.barriers.specs.Kits.{Runs, Stands, IsHeaderWord, own_of, ending_of, said_by, read_said}
use Rattle.at_rest.specs.RestTable.{at_rest, rest_fed}
use Rattle.at_rest.specs.Knowing.{IsPhase, reads, ReadsFor}

-- ---- what a step finds

-- the len of a header is the one that its word says
pub len_found : (birth : ℕ) (x : State) (colour : Colour) (len n : ℕ) → (word : IsHeaderWord None birth x colour len n) → (let h = header_at n in h.len) ≡ len
len_found birth x colour len n word = ap (λ h. h.len) (ap header_at word.word ∙ header_at-word_of_header word.header word.fits) ∙ word.len_is

-- a field's word is the one that is packed there
pub word_found : (w : FieldWord) (n : ℕ) → (n ≡ word_of w) × IsFieldWord w → field_at n ≡ w
word_found w n word = ap field_at word.0 ∙ field_at-word_of w word.1

-- what was found is followed as the stance asks
pub follows_as : (v : PassView) (phase : Phase) (s : Spot) (t : Task) (w : FieldWord) (n : ℕ) → IsPhase v phase → field_at n ≡ w → followed s t (follows.follow_of phase (field_at n)) ≡ closes (stance_at v.acked) s t w
follows_as v phase s t w n in_phase found =
    let same : phase ≡ phase_of (stance_at v.acked) = in_phase ∙ sym (phase_of-stance_at v.acked) in
    cc

-- ---- a read

read_asks : (v : PassView) (m : ReadMachine) → ReadsFor v m → machine_of_read.asks_of m ≡ step_of (reads m)
read_asks v (read.Header spot phase) for = refl
read_asks v (read.Field spot phase) for = refl
read_asks v (read.Follow spot (follow.Header birth at)) for = refl
read_asks v (read.Follow spot (follow.Ended end)) for = refl
read_asks v (read.NoField spot len) for = refl

read_by_len : (v : PassView) (spot : Spot) (phase : Phase) (len : ℕ) (b : Bool) → IsPhase v phase
    → (reads (if b then read.Field spot phase else read.NoField spot len) ≡ (if b then Loads spot Reads else reads (read.NoField spot len))) × ReadsFor v (if b then read.Field spot phase else read.NoField spot len)
read_by_len v spot phase len true in_phase = (refl, in_phase)
read_by_len v spot phase len false in_phase = (refl, tt)

-- it goes on as the table says
abbrev Goes : PassView → ReadMachine → Stance → Here → FieldWord → ℕ → Type 0
Goes v m p x copy n = (reads (machine_of_read.fed_of m n) ≡ rest_fed (stance_at v.acked) (own_of false v) (reads m) (finds p x copy (reads m))) × ReadsFor v (machine_of_read.fed_of m n)

nowhere : (spot at : Spot) (its : FollowMachine) → at_field (followed spot Reads its) ≡ Some at → ⊥
nowhere spot at (follow.Header birth place) e = cc
nowhere spot at (follow.Ended end) e = cc

read_goes : (v : PassView) (m : ReadMachine) (p : Stance) (x : Here) (copy : FieldWord) (n : ℕ) → Stands reads ReadsFor v m p x copy n → Goes v m p x copy n
read_goes v (read.Header spot phase) p x copy n stands =
    let len = len_found spot.birth x.state x.colour x.len n stands.word in
    subst
    (λ (l : ℕ). (reads (machine_of_read.by_len spot phase l) ≡ where_field spot Reads x.len (Loads spot Reads)) × ReadsFor v (machine_of_read.by_len spot phase l))
    (sym len) (read_by_len v spot phase x.len (nat_lt spot.field x.len) stands.own)
read_goes v (read.Field spot phase) p x copy n stands = (follows_as v phase spot Reads x.word n stands.own (word_found x.word n stands.word), tt)
read_goes v (read.Follow spot its) p x copy n stands = absurd (nowhere spot stands.spot its stands.at)
read_goes v (read.NoField spot len) p x copy n stands = absurd (let e = stands.at in cc)

read_looks : (v : PassView) (m : ReadMachine) (p : Stance) (x : Here) (copy : FieldWord) (n : ℕ) → Stands reads ReadsFor v m p x copy n → machine_of_read.front m n ≡ looks (own_of false v) (reads m) (finds p x copy (reads m))
read_looks v (read.Header spot phase) p x copy n stands = refl
read_looks v (read.Field spot phase) p x copy n stands = refl
read_looks v (read.Follow spot its) p x copy n stands = absurd (nowhere spot stands.spot its stands.at)
read_looks v (read.NoField spot len) p x copy n stands = refl

-- of what it follows
abbrev GoesOn : PassView → ReadMachine → Spot → Task → FollowMachine → ℕ → Type 0
GoesOn v m s t f n = (reads (machine_of_read.fed_of m n) ≡ followed s t (follows.fed_of f n)) × ReadsFor v (machine_of_read.fed_of m n) × (machine_of_read.front m n ≡ Stays)

read_follows : (v : PassView) (m : ReadMachine) (s : Spot) (t : Task) (f : FollowMachine) (n : ℕ) → ReadsFor v m → reads m ≡ Follows s t f → GoesOn v m s t f n
read_follows v (read.Header spot phase) s t f n for e = absurd cc
read_follows v (read.Field spot phase) s t f n for e = absurd cc
read_follows v (read.Follow spot (follow.Header birth at)) s t f n for e =
    let spots : spot ≡ s = cc in
    let tasks : Reads ≡ t = cc in
    let machines : follow.Header birth at ≡ f = cc in
    (cc, tt, refl)
read_follows v (read.Follow spot (follow.Ended end)) s t f n for e = absurd cc
read_follows v (read.NoField spot len) s t f n for e = absurd cc

read_over : (v : PassView) (m : ReadMachine) → ReadsFor v m → machine_of_read.asks_of m ≡ Ended → (s : Spot) × (t : Task) × (end : Ending) × (reads m ≡ Over s t end)
read_over v (read.Header spot phase) for e = absurd cc
read_over v (read.Field spot phase) for e = absurd cc
read_over v (read.Follow spot (follow.Header birth at)) for e = absurd cc
read_over v (read.Follow spot (follow.Ended end)) for e = (spot, Reads, Got end.word, refl)
read_over v (read.NoField spot len) for e = (spot, Reads, _, refl)

read_tells : (m : ReadMachine) → machine_of_read.end_of m ≡ said_by read_said (ending_of (reads m))
read_tells (read.Header spot phase) = refl
read_tells (read.Field spot phase) = refl
read_tells (read.Follow spot (follow.Header birth at)) = refl
read_tells (read.Follow spot (follow.Ended end)) = refl
read_tells (read.NoField spot len) = refl

read_packed : (v : PassView) (m : ReadMachine) → ReadsFor v m → IsPacked (reads m)
read_packed v (read.Header spot phase) for = record { task = tt; from = tt }
read_packed v (read.Field spot phase) for = record { task = tt; from = tt }
read_packed v (read.Follow spot (follow.Header birth at)) for = record { task = tt; from = tt }
read_packed v (read.Follow spot (follow.Ended end)) for = record { task = tt; from = tt }
read_packed v (read.NoField spot len) for = record { task = tt; from = tt }

pub reading : Runs at_rest (own_of false) machine_of_read.asks_of machine_of_read.fed_of machine_of_read.front reads ReadsFor machine_of_read.end_of read_said
reading = record {
  asks_alike = read_asks;
  goes = read_goes;
  looks_alike = read_looks;
  follows_on = read_follows;
  over = read_over;
  tells = read_tells;
  packed = read_packed;
}
