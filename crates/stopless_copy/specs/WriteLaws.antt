-- A write does what is known of it.
use Rattle.std.specs.Prelude.{◌≡◌, ℕ, ◌+◌, ◌==◌, if◌then◌else◌, Bool, true, false, Some, refl}
use Rattle.std.proofs.Common.{ap, sym, subst, ◌∙◌}
use Rattle.call_steps.specs.declared.step.Step.TheVariants.{Load, Exchange, Ended}
use Rattle.heap_words.specs.declared.field_word.FieldWord.{FieldWord}
use Rattle.heap_words.specs.FieldWords.{field_at}
use Rattle.object_headers.specs.Headers.{header_at}
use Rattle.wide_objects.specs.declared.wide_word.WideWord.{WideWord}
use Rattle.wide_objects.specs.WideWords.{wide_word_at}
use Rattle.wide_objects.specs.Statuses.{Status, InOriginal, InWide, InCopy, IsStatus, word_of_status, status_at, wide_of_status}
use Rattle.handshakes.specs.declared.pass_view.PassView.{PassView}
use Rattle.handshakes.specs.declared.follow.FollowMachine.{FollowMachine}
use Rattle.handshakes.specs.Follows as follows
use Rattle.barriers.specs.declared.spot.Spot.{Spot}
use Rattle.barriers.specs.declared.front.Front.TheVariants.{Stays}
use Rattle.barriers.specs.declared.ends.WriteEnd.TheVariants as write_end
use Rattle.barriers.specs.declared.plain_exchange.TriesLeft.{TriesLeft}
use Rattle.barriers.specs.declared.plain_exchange.TriesLeft.TheVariants.{Two, One, Zero}
use Rattle.barriers.specs.declared.write.WriteMachine.TheVariants as rest_write
use Rattle.barriers.specs.Stances.{Stance, stance_at}
use Rattle.barriers.specs.Spaces.{Here}
use Rattle.barriers.specs.Says.{IsPacked}
use Rattle.barriers.specs.Knowns.{Task, Writes, Ending, Wrote, Known, Loads_wide, Swaps_wide, Stores_copy, Follows, Over, finds, looks, step_of, followed}
use Rattle.barriers.specs.Kits.{Runs, Stands, own_of, ending_of, said_by, write_said}
use Rattle.at_rest.specs.Knowing.{tries_in}
use Rattle.at_rest.specs.ReadLaws.{len_found}
use Rattle.at_rest.specs.WriteLaws.{writing}
use Rattle.tagged_calls.specs.KeepLaws.{header_goes}
use Rattle.tagged_calls.specs.LocationLaws.{location_found, keep_asks, at_keep}
use Rattle.tagged_calls.specs.TaggedCalls.{as_at_rest}
use Rattle.tagged_calls.specs.PlacedLaws.{placed_asks, placed_goes, placed_plain, placed_looks, placed_follows, placed_over, placed_tells, placed_packed, begins_loaded, begins_kept}
use Rattle.stopless_copy.specs.declared.write.WideWrite.{WideWrite}
use Rattle.stopless_copy.specs.declared.write.StoplessWrite.{StoplessWrite}
use Rattle.stopless_copy.specs.declared.write.StoplessWrite.TheVariants as write
use Rattle.stopless_copy.specs.StoplessWrites as machine
use Rattle.stopless_copy.specs.WideSteps.{in_wide}
use Rattle.stopless_copy.specs.StoplessTable.{by_wide, raced_wide, lost_wide, tried_wide, stopless_fed, stopless}
use Rattle.stopless_copy.specs.StoplessKnowing.{writes, written, IsPackedStatus, WideWritesFor, WritesFor}
use Rattle.stopless_copy.specs.WideLaws.{wide_found, status_found, packed_status, wide_looks, wide_wins, address_found, field_place, first_goes, inside_goes}
use Rattle.stopless_copy.specs.StoplessSteps.{few_fields, at_plain}

write_asks : (v : PassView) (m : StoplessWrite) → WritesFor v m → machine.asks_of m ≡ step_of (writes m)
write_asks v (write.Header spot word) for = refl
write_asks v (write.Keep spot word keep) for = keep_asks spot (Writes (field_at word)) keep for.1
write_asks v (write.Field m) for = placed_asks writing v m for
write_asks v (write.Wide its) for = let wide = for.1 in ap (λ (at : ℕ). Load at) wide.place
write_asks v (write.Try its wanted tries) for =
    let wide = for.0.1 in
    let wants = for.1 in
    ap (λ (at : ℕ). Exchange at wanted (in_wide its.word)) wide.place ∙ ap (λ (want : ℕ). Exchange (its.wide.at + 1 + its.spot.field) want (in_wide its.word)) wants.same
write_asks v (write.Address its) for = refl

-- ---- at the wide word

-- it is known so then
abbrev Becomes : PassView → StoplessWrite → Known → Type 0
Becomes v m k = (writes m ≡ k) × WritesFor v m

-- where this status is found, by this word
module _ (v : PassView) (its : WideWrite) (for : WideWritesFor its) (u : Status) (n : ℕ) (found : (n ≡ word_of_status u) × IsStatus u) where
  abbrev at_wide : Status → ℕ → Known
  at_wide x left = Swaps_wide its.spot (written its) its.wide.at x left

  tries_so : (tries : TriesLeft) → Becomes v (write.Try its n tries) (at_wide u (tries_in tries))
  tries_so tries = (ap (λ (x : Status). at_wide x (tries_in tries)) (status_found u n found), (for, packed_status u n found))

  looked_so : (x : Status) → u ≡ x → Becomes v (machine.looked its n (wide_of_status x)) (by_wide (stance_at v.acked) its.spot (written its) its.wide.at x)
  looked_so InOriginal is = subst (λ (y : Status). Becomes v (write.Try its n Two) (at_wide y 2)) is (tries_so Two)
  looked_so (InWide w) is = subst (λ (y : Status). Becomes v (write.Try its n Two) (at_wide y 2)) is (tries_so Two)
  looked_so (InCopy w) is = (refl, for)

  looks_so : Becomes v (machine.looked its n (wide_word_at n)) (by_wide (stance_at v.acked) its.spot (written its) its.wide.at u)
  looks_so = subst (λ (w : WideWord). Becomes v (machine.looked its n w) (by_wide (stance_at v.acked) its.spot (written its) its.wide.at u)) (sym (wide_found u n found)) (looked_so u refl)

  -- by an exchange that wanted this
  module _ (wanted : ℕ) (wants : IsPackedStatus wanted) where
    abbrev from : Status
    from = status_at wanted

    raced_so : (x : Status) → u ≡ x → Becomes v (machine.raced its wanted n) (raced_wide its.spot (written its) from x)
    raced_so x is =
        let before : wanted ≡ word_of_status from = wants.same in
        let now : n ≡ word_of_status x = found.0 ∙ ap word_of_status is in
        (cc, (for.0, tt))

    lost_so : (tries : TriesLeft) (x : Status) → u ≡ x → Becomes v (machine.lost its wanted tries n (wide_of_status x)) (lost_wide (stance_at v.acked) its.spot (written its) its.wide.at from x (tries_in tries))
    lost_so tries InOriginal is = raced_so InOriginal is
    lost_so Two (InWide w) is = subst (λ (y : Status). Becomes v (write.Try its n One) (at_wide y 1)) is (tries_so One)
    lost_so One (InWide w) is = subst (λ (y : Status). Becomes v (write.Try its n Zero) (at_wide y 0)) is (tries_so Zero)
    lost_so Zero (InWide w) is = raced_so (InWide w) is
    lost_so tries (InCopy w) is = (refl, for)

    tried_so : (tries : TriesLeft) (b : Bool) → Becomes v (if b then machine.over its.spot its.word write_end.Wrote else machine.lost its wanted tries n (wide_word_at n))
        (if b then Over its.spot (written its) Wrote else lost_wide (stance_at v.acked) its.spot (written its) its.wide.at from u (tries_in tries))
    tried_so tries true = (refl, (for.0, tt))
    tried_so tries false =
        subst (λ (w : WideWord). Becomes v (machine.lost its wanted tries n w) (lost_wide (stance_at v.acked) its.spot (written its) its.wide.at from u (tries_in tries))) (sym (wide_found u n found)) (lost_so tries u refl)

    tries_on : (tries : TriesLeft) → Becomes v (machine.tried its wanted tries n) (tried_wide (stance_at v.acked) its.spot (written its) its.wide.at from u (tries_in tries))
    tries_on tries =
        subst (λ (b : Bool). Becomes v (machine.tried its wanted tries n) (if b then Over its.spot (written its) Wrote else lost_wide (stance_at v.acked) its.spot (written its) its.wide.at from u (tries_in tries)))
        (wide_wins u n wanted found wants) (tried_so tries (n == wanted))

addressed_so : (v : PassView) (its : WideWrite) (at : ℕ) → WideWritesFor its → Becomes v (write.Field (machine.copied its at)) (Stores_copy its.spot (field_at its.word) at)
addressed_so v its at for = let wide = for.1 in (refl, (for.0, field_place its.spot at wide.few))

-- ---- it goes on

write_goes : (v : PassView) (m : StoplessWrite) (p : Stance) (x : Here) (copy : FieldWord) (n : ℕ) → Stands writes WritesFor v m p x copy n
    → (writes (machine.fed_of m n) ≡ stopless_fed (stance_at v.acked) (own_of false v) (writes m) (finds p x copy (writes m))) × WritesFor v (machine.fed_of m n)
write_goes v (write.Header spot word) p x copy n stands =
    let task : Task = Writes (field_at word) in
    let found = stands.word in
    let begins = begins_loaded writing v task (λ z. rest_write.Header z word) (λ z. refl) (λ z. stands.own) p x copy n as_at_rest spot (λ y wide is. refl) found in
    header_goes writes (WritesFor v) (write.Keep spot word) (machine.placed spot word n) Loads_wide spot task tt x n found (λ keep. (refl, (stands.own, keep)))
    (first_goes writes (WritesFor v) (machine.widened spot word) (machine.at_word spot word n) spot task x.len n (len_found spot.birth x.state x.colour x.len n found) (few_fields spot.birth x.state x.colour x.len n found)
    (λ at wide. (refl, (stands.own, wide))) n x.state (location_found _ spot.birth x.state x.colour x.len n found spot) begins)
write_goes v (write.Keep spot word keep) p x copy n stands =
    let own = stands.own in
    let is = own.1 in
    let task : Task = Writes (field_at word) in
    let h = header_at keep.tagged in
    let begins = begins_kept writing v task (λ z. rest_write.Header z word) (λ z. refl) (λ z. own.0) p (at_keep x keep) copy keep.tagged as_at_rest spot (λ y wide is. refl)
    (Some (header_at keep.tagged)) x.state x.colour x.len n is.word is.inside stands.word in
    inside_goes writes (WritesFor v) (machine.widened spot word) (machine.at_word spot word keep.tagged) spot task h.len keep.tagged refl (few_fields spot.birth _ h.colour h.len keep.tagged is.word)
    (λ at wide. (refl, (own.0, wide))) n x.state is.inside (location_found _ spot.birth x.state x.colour x.len n stands.word spot) begins
write_goes v (write.Field m) p x copy n stands =
    let goes = placed_goes writing v m p x copy n stands.spot stands.own stands.at stands.word in
    let plain = placed_plain writing v m stands.spot stands.own stands.at in
    (goes.0 ∙ sym (at_plain (stance_at v.acked) (own_of false v) (writes (write.Field m)) (finds p x copy (writes (write.Field m))) plain), goes.1)
write_goes v (write.Wide its) p x copy n stands = looks_so v its stands.own x.status n stands.word
write_goes v (write.Try its wanted tries) p x copy n stands = let own = stands.own in tries_on v its own.0 x.status n stands.word wanted own.1 tries
write_goes v (write.Address its) p x copy n stands =
    subst (λ (at : ℕ). Becomes v (write.Field (machine.copied its at)) (Stores_copy its.spot (field_at its.word) x.address)) (sym (address_found x.address n stands.word))
    (addressed_so v its x.address stands.own)

write_looks : (v : PassView) (m : StoplessWrite) (p : Stance) (x : Here) (copy : FieldWord) (n : ℕ) → Stands writes WritesFor v m p x copy n → machine.front m n ≡ looks (own_of false v) (writes m) (finds p x copy (writes m))
write_looks v (write.Header spot word) p x copy n stands = refl
write_looks v (write.Keep spot word keep) p x copy n stands = refl
write_looks v (write.Field m) p x copy n stands = placed_looks writing v m p x copy n stands.spot stands.own stands.at stands.word
write_looks v (write.Wide its) p x copy n stands = wide_looks x.status n stands.word
write_looks v (write.Try its wanted tries) p x copy n stands = wide_looks x.status n stands.word
write_looks v (write.Address its) p x copy n stands = refl

write_follows : (v : PassView) (m : StoplessWrite) (s : Spot) (t : Task) (f : FollowMachine) (n : ℕ) → WritesFor v m → writes m ≡ Follows s t f
    → (writes (machine.fed_of m n) ≡ followed s t (follows.fed_of f n)) × WritesFor v (machine.fed_of m n) × (machine.front m n ≡ Stays)
write_follows v (write.Field m) s t f n for is = placed_follows writing v m s t f n for is
write_follows v (write.Header spot word) s t f n for is = absurd cc
write_follows v (write.Keep spot word keep) s t f n for is = absurd cc
write_follows v (write.Wide its) s t f n for is = absurd cc
write_follows v (write.Try its wanted tries) s t f n for is = absurd cc
write_follows v (write.Address its) s t f n for is = absurd cc

write_over : (v : PassView) (m : StoplessWrite) → WritesFor v m → machine.asks_of m ≡ Ended → (s : Spot) × (t : Task) × (end : Ending) × (writes m ≡ Over s t end)
write_over v (write.Field m) for is = placed_over writing v m for is
write_over v (write.Header spot word) for is = absurd cc
write_over v (write.Keep spot word keep) for is = absurd cc
write_over v (write.Wide its) for is = absurd cc
write_over v (write.Try its wanted tries) for is = absurd cc
write_over v (write.Address its) for is = absurd cc

write_tells : (m : StoplessWrite) → machine.end_of m ≡ said_by write_said (ending_of (writes m))
write_tells (write.Field m) = placed_tells writing m
write_tells (write.Header spot word) = refl
write_tells (write.Keep spot word keep) = refl
write_tells (write.Wide its) = refl
write_tells (write.Try its wanted tries) = refl
write_tells (write.Address its) = refl

write_packed : (v : PassView) (m : StoplessWrite) → WritesFor v m → IsPacked (writes m)
write_packed v (write.Field m) for = placed_packed writing v m for
write_packed v (write.Header spot word) for = record { task = for.fits; from = tt }
write_packed v (write.Keep spot word keep) for = let packed = for.0 in record { task = packed.fits; from = tt }
write_packed v (write.Wide its) for = let packed = for.0 in record { task = packed.fits; from = tt }
write_packed v (write.Try its wanted tries) for = let packed = for.0.0 in let wants = for.1 in record { task = packed.fits; from = (wants.fits, tt) }
write_packed v (write.Address its) for = let packed = for.0 in record { task = packed.fits; from = tt }

pub stopless_writing : Runs stopless (own_of false) machine.asks_of machine.fed_of machine.front writes WritesFor machine.end_of write_said
stopless_writing = record {
  asks_alike = write_asks;
  goes = write_goes;
  looks_alike = write_looks;
  follows_on = write_follows;
  over = write_over;
  tells = write_tells;
  packed = write_packed;
}
