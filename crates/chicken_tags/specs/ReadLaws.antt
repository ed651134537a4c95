-- A read does what is known of it.
use Rattle.std.specs.Prelude.{◌≡◌, ℕ, false, refl}
use Rattle.std.proofs.Common.{ap, sym, ◌∙◌}
use Rattle.call_steps.specs.declared.step.Step.TheVariants.{Ended}
use Rattle.heap_words.specs.declared.field_word.FieldWord.{FieldWord}
use Rattle.handshakes.specs.declared.pass_view.PassView.{PassView}
use Rattle.handshakes.specs.declared.follow.FollowMachine.{FollowMachine}
use Rattle.handshakes.specs.Follows as follows
use Rattle.barriers.specs.declared.spot.Spot.{Spot}
use Rattle.barriers.specs.declared.front.Front.TheVariants.{Stays}
use Rattle.barriers.specs.declared.read.ReadMachine.TheVariants as rest_read
use Rattle.barriers.specs.Stances.{Stance, stance_at}
use Rattle.barriers.specs.Spaces.{Here}
use Rattle.barriers.specs.Says.{IsPacked}
use Rattle.barriers.specs.Knowns.{Task, Reads, Ending, Follows, Over, finds, looks, step_of, followed}
use Rattle.barriers.specs.PlainCalls.{where_field}
use Rattle.barriers.specs.Kits.{Runs, Stands, own_of, ending_of, said_by, read_said}
use Rattle.at_rest.specs.ReadLaws.{reading}
use Rattle.tagged_calls.specs.TaggedCalls.{as_at_rest}
use Rattle.tagged_calls.specs.TaggedCallLaws.{tagged_plainly, read_header}
use Rattle.tagged_calls.specs.PlacedLaws.{placed_asks, placed_goes, placed_plain, placed_looks, placed_follows, placed_over, placed_tells, placed_packed, begins_loaded}
use Rattle.chicken_tags.specs.declared.read.ChickenRead.{ChickenRead}
use Rattle.chicken_tags.specs.declared.read.ChickenRead.TheVariants as read
use Rattle.chicken_tags.specs.ChickenReads as machine
use Rattle.chicken_tags.specs.ChickenTable.{chicken_fed, chicken}
use Rattle.chicken_tags.specs.ChickenKnowing.{reads, ReadsFor}

read_asks : (v : PassView) (m : ChickenRead) → ReadsFor v m → machine.asks_of m ≡ step_of (reads m)
read_asks v (read.Header spot phase) for = refl
read_asks v (read.Field m) for = placed_asks reading v m for

read_goes : (v : PassView) (m : ChickenRead) (p : Stance) (x : Here) (copy : FieldWord) (n : ℕ) → Stands reads ReadsFor v m p x copy n
    → (reads (machine.fed_of m n) ≡ chicken_fed (stance_at v.acked) (own_of false v) (reads m) (finds p x copy (reads m))) × ReadsFor v (machine.fed_of m n)
read_goes v (read.Header spot phase) p x copy n stands =
    let begins = begins_loaded reading v Reads (λ z. rest_read.Header z phase) (λ z. refl) (λ z. stands.own) p x copy n as_at_rest spot (λ y wide is. refl) stands.word in
    (begins.0 ∙ ap (where_field spot Reads x.len) (read_header as_at_rest spot x.state x.colour x.len), begins.1)
read_goes v (read.Field m) p x copy n stands =
    let goes = placed_goes reading v m p x copy n stands.spot stands.own stands.at stands.word in
    let plain = placed_plain reading v m stands.spot stands.own stands.at in
    (goes.0 ∙ sym (tagged_plainly as_at_rest (stance_at v.acked) (reads (read.Field m)) (finds p x copy (reads (read.Field m))) plain), goes.1)

read_looks : (v : PassView) (m : ChickenRead) (p : Stance) (x : Here) (copy : FieldWord) (n : ℕ) → Stands reads ReadsFor v m p x copy n → machine.front m n ≡ looks (own_of false v) (reads m) (finds p x copy (reads m))
read_looks v (read.Header spot phase) p x copy n stands = refl
read_looks v (read.Field m) p x copy n stands = placed_looks reading v m p x copy n stands.spot stands.own stands.at stands.word

read_follows : (v : PassView) (m : ChickenRead) (s : Spot) (t : Task) (f : FollowMachine) (n : ℕ) → ReadsFor v m → reads m ≡ Follows s t f
    → (reads (machine.fed_of m n) ≡ followed s t (follows.fed_of f n)) × ReadsFor v (machine.fed_of m n) × (machine.front m n ≡ Stays)
read_follows v (read.Header spot phase) s t f n for is = absurd cc
read_follows v (read.Field m) s t f n for is = placed_follows reading v m s t f n for is

read_over : (v : PassView) (m : ChickenRead) → ReadsFor v m → machine.asks_of m ≡ Ended → (s : Spot) × (t : Task) × (end : Ending) × (reads m ≡ Over s t end)
read_over v (read.Header spot phase) for is = absurd cc
read_over v (read.Field m) for is = placed_over reading v m for is

read_tells : (m : ChickenRead) → machine.end_of m ≡ said_by read_said (ending_of (reads m))
read_tells (read.Header spot phase) = refl
read_tells (read.Field m) = placed_tells reading m

read_packed : (v : PassView) (m : ChickenRead) → ReadsFor v m → IsPacked (reads m)
read_packed v (read.Header spot phase) for = record { task = tt; from = tt }
read_packed v (read.Field m) for = placed_packed reading v m for

pub chicken_reading : Runs chicken (own_of false) machine.asks_of machine.fed_of machine.front reads ReadsFor machine.end_of read_said
chicken_reading = record {
  asks_alike = read_asks;
  goes = read_goes;
  looks_alike = read_looks;
  follows_on = read_follows;
  over = read_over;
  tells = read_tells;
  packed = read_packed;
}
