-- A read does what is known of it.
use Rattle.std.specs.Prelude.{◌≡◌, ℕ, false, refl}
use Rattle.std.proofs.Common.{ap, sym, subst, ◌∙◌}
use Rattle.call_steps.specs.declared.step.Step.TheVariants.{Load, Ended}
use Rattle.heap_words.specs.declared.field_word.FieldWord.{FieldWord}
use Rattle.heap_words.specs.FieldWords.{field_at, word_of}
use Rattle.heap_words.specs.FieldWordLaws.{field_at-word_of}
use Rattle.wide_objects.specs.declared.wide_word.WideWord.{WideWord}
use Rattle.wide_objects.specs.Statuses.{Status, InOriginal, InWide, InCopy, IsStatus, wide_of_status}
use Rattle.handshakes.specs.declared.pass_view.PassView.{PassView}
use Rattle.handshakes.specs.declared.phase_word.Phase.{Phase}
use Rattle.handshakes.specs.declared.follow.FollowMachine.{FollowMachine}
use Rattle.handshakes.specs.Follows as follows
use Rattle.barriers.specs.declared.spot.Spot.{Spot}
use Rattle.barriers.specs.declared.front.Front.TheVariants.{Stays}
use Rattle.barriers.specs.declared.read.ReadMachine.TheVariants as rest_read
use Rattle.barriers.specs.Stances.{Stance, stance_at}
use Rattle.barriers.specs.Spaces.{Here}
use Rattle.barriers.specs.Says.{IsPacked}
use Rattle.barriers.specs.Knowns.{Task, Reads, Ending, Known, Loads_wide, Loads_copy, Follows, Over, finds, looks, step_of, followed, closes}
use Rattle.barriers.specs.Kits.{Runs, Stands, own_of, ending_of, said_by, read_said}
use Rattle.barriers.specs.PlainCalls.{where_field}
use Rattle.at_rest.specs.Knowing.{IsPhase}
use Rattle.at_rest.specs.ReadLaws.{reading, len_found, word_found, follows_as}
use Rattle.tagged_calls.specs.LocationLaws.{location_found}
use Rattle.tagged_calls.specs.CopyLaws.{followed_begun}
use Rattle.tagged_calls.specs.TaggedCalls.{as_at_rest}
use Rattle.tagged_calls.specs.TaggedCallLaws.{read_header}
use Rattle.tagged_calls.specs.PlacedLaws.{placed_asks, placed_goes, placed_plain, placed_looks, placed_follows, placed_over, placed_tells, placed_packed, begins_loaded}
use Rattle.stopless_copy.specs.declared.read.WideRead.{WideRead}
use Rattle.stopless_copy.specs.declared.read.StoplessRead.{StoplessRead}
use Rattle.stopless_copy.specs.declared.read.StoplessRead.TheVariants as read
use Rattle.stopless_copy.specs.StoplessReads as machine
use Rattle.stopless_copy.specs.StoplessTable.{by_wide, stopless_fed, stopless}
use Rattle.stopless_copy.specs.StoplessKnowing.{reads, WideReadsFor, ReadsFor}
use Rattle.stopless_copy.specs.WideLaws.{wide_found, wide_looks, address_found, field_place, first_goes}
use Rattle.stopless_copy.specs.StoplessSteps.{few_fields, at_plain}

read_asks : (v : PassView) (m : StoplessRead) → ReadsFor v m → machine.asks_of m ≡ step_of (reads m)
read_asks v (read.Header spot phase) for = refl
read_asks v (read.Field m) for = placed_asks reading v m for
read_asks v (read.Wide its) for = let wide = for.1 in ap (λ (at : ℕ). Load at) wide.place
read_asks v (read.Original its) for = refl
read_asks v (read.Address its) for = refl

-- it is known so then
abbrev Becomes : PassView → StoplessRead → Known → Type 0
Becomes v m k = (reads m ≡ k) × ReadsFor v m

-- with the field's word at hand
given_so : (v : PassView) (spot : Spot) (phase : Phase) (word : ℕ) (w : FieldWord) → IsPhase v phase → field_at word ≡ w → Becomes v (machine.given spot phase word) (closes (stance_at v.acked) spot Reads w)
given_so v spot phase word w in_phase found = (follows_as v phase spot Reads w word in_phase found, (tt, followed_begun spot Reads (follows.follow_of phase (field_at word))))

looked_so : (v : PassView) (its : WideRead) (u : Status) → WideReadsFor v its → IsStatus u → Becomes v (machine.looked its (wide_of_status u)) (by_wide (stance_at v.acked) its.spot Reads its.wide.at u)
looked_so v its InOriginal for fits = (refl, for)
looked_so v its (InWide w) for fits = given_so v its.spot its.phase (word_of w) w for.0 (field_at-word_of w fits)
looked_so v its (InCopy w) for fits = (refl, for)

addressed_so : (v : PassView) (its : WideRead) (at : ℕ) → WideReadsFor v its → Becomes v (read.Field (machine.copied its at)) (Loads_copy its.spot Reads at)
addressed_so v its at for = let wide = for.1 in (refl, (for.0, field_place its.spot at wide.few))

read_goes : (v : PassView) (m : StoplessRead) (p : Stance) (x : Here) (copy : FieldWord) (n : ℕ) → Stands reads ReadsFor v m p x copy n
    → (reads (machine.fed_of m n) ≡ stopless_fed (stance_at v.acked) (own_of false v) (reads m) (finds p x copy (reads m))) × ReadsFor v (machine.fed_of m n)
read_goes v (read.Header spot phase) p x copy n stands =
    let found = stands.word in
    let begins = begins_loaded reading v Reads (λ z. rest_read.Header z phase) (λ z. refl) (λ z. stands.own) p x copy n as_at_rest spot (λ y wide is. refl) found in
    let goes = first_goes reads (ReadsFor v) (machine.widened spot phase) (machine.at_word spot phase n) spot Reads x.len n (len_found spot.birth x.state x.colour x.len n found) (few_fields spot.birth x.state x.colour x.len n found)
    (λ at wide. (refl, (stands.own, wide))) n x.state (location_found _ spot.birth x.state x.colour x.len n found spot) begins in
    (goes.0 ∙ ap (where_field spot Reads x.len) (read_header Loads_wide spot x.state x.colour x.len), goes.1)
read_goes v (read.Field m) p x copy n stands =
    let goes = placed_goes reading v m p x copy n stands.spot stands.own stands.at stands.word in
    let plain = placed_plain reading v m stands.spot stands.own stands.at in
    (goes.0 ∙ sym (at_plain (stance_at v.acked) (own_of false v) (reads (read.Field m)) (finds p x copy (reads (read.Field m))) plain), goes.1)
read_goes v (read.Wide its) p x copy n stands =
    let found = stands.word in
    subst (λ (w : WideWord). Becomes v (machine.looked its w) (by_wide (stance_at v.acked) its.spot Reads its.wide.at x.status)) (sym (wide_found x.status n found))
    (looked_so v its x.status stands.own found.1)
read_goes v (read.Original its) p x copy n stands = let own = stands.own in given_so v its.spot its.phase n x.word own.0 (word_found x.word n stands.word)
read_goes v (read.Address its) p x copy n stands =
    subst (λ (at : ℕ). Becomes v (read.Field (machine.copied its at)) (Loads_copy its.spot Reads x.address)) (sym (address_found x.address n stands.word))
    (addressed_so v its x.address stands.own)

read_looks : (v : PassView) (m : StoplessRead) (p : Stance) (x : Here) (copy : FieldWord) (n : ℕ) → Stands reads ReadsFor v m p x copy n → machine.front m n ≡ looks (own_of false v) (reads m) (finds p x copy (reads m))
read_looks v (read.Header spot phase) p x copy n stands = refl
read_looks v (read.Field m) p x copy n stands = placed_looks reading v m p x copy n stands.spot stands.own stands.at stands.word
read_looks v (read.Wide its) p x copy n stands = wide_looks x.status n stands.word
read_looks v (read.Original its) p x copy n stands = refl
read_looks v (read.Address its) p x copy n stands = refl

read_follows : (v : PassView) (m : StoplessRead) (s : Spot) (t : Task) (f : FollowMachine) (n : ℕ) → ReadsFor v m → reads m ≡ Follows s t f
    → (reads (machine.fed_of m n) ≡ followed s t (follows.fed_of f n)) × ReadsFor v (machine.fed_of m n) × (machine.front m n ≡ Stays)
read_follows v (read.Field m) s t f n for is = placed_follows reading v m s t f n for is
read_follows v (read.Header spot phase) s t f n for is = absurd cc
read_follows v (read.Wide its) s t f n for is = absurd cc
read_follows v (read.Original its) s t f n for is = absurd cc
read_follows v (read.Address its) s t f n for is = absurd cc

read_over : (v : PassView) (m : StoplessRead) → ReadsFor v m → machine.asks_of m ≡ Ended → (s : Spot) × (t : Task) × (end : Ending) × (reads m ≡ Over s t end)
read_over v (read.Field m) for is = placed_over reading v m for is
read_over v (read.Header spot phase) for is = absurd cc
read_over v (read.Wide its) for is = absurd cc
read_over v (read.Original its) for is = absurd cc
read_over v (read.Address its) for is = absurd cc

read_tells : (m : StoplessRead) → machine.end_of m ≡ said_by read_said (ending_of (reads m))
read_tells (read.Field m) = placed_tells reading m
read_tells (read.Header spot phase) = refl
read_tells (read.Wide its) = refl
read_tells (read.Original its) = refl
read_tells (read.Address its) = refl

read_packed : (v : PassView) (m : StoplessRead) → ReadsFor v m → IsPacked (reads m)
read_packed v (read.Field m) for = placed_packed reading v m for
read_packed v (read.Header spot phase) for = record { task = tt; from = tt }
read_packed v (read.Wide its) for = record { task = tt; from = tt }
read_packed v (read.Original its) for = record { task = tt; from = tt }
read_packed v (read.Address its) for = record { task = tt; from = tt }

pub stopless_reading : Runs stopless (own_of false) machine.asks_of machine.fed_of machine.front reads ReadsFor machine.end_of read_said
stopless_reading = record {
  asks_alike = read_asks;
  goes = read_goes;
  looks_alike = read_looks;
  follows_on = read_follows;
  over = read_over;
  tells = read_tells;
  packed = read_packed;
}
