-- A write does what is known of it.
use Rattle.std.specs.Prelude.{◌≡◌, ℕ, false, Some, refl}
use Rattle.std.proofs.Common.{sym, ◌∙◌}
use Rattle.call_steps.specs.declared.step.Step.TheVariants.{Ended}
use Rattle.heap_words.specs.declared.field_word.FieldWord.{FieldWord}
use Rattle.heap_words.specs.FieldWords.{field_at}
use Rattle.object_headers.specs.Headers.{header_at}
use Rattle.handshakes.specs.declared.pass_view.PassView.{PassView}
use Rattle.handshakes.specs.declared.follow.FollowMachine.{FollowMachine}
use Rattle.handshakes.specs.Follows as follows
use Rattle.barriers.specs.declared.spot.Spot.{Spot}
use Rattle.barriers.specs.declared.front.Front.TheVariants.{Stays}
use Rattle.barriers.specs.declared.write.WriteMachine.TheVariants as rest_write
use Rattle.barriers.specs.Stances.{Stance, stance_at}
use Rattle.barriers.specs.Spaces.{Here}
use Rattle.barriers.specs.Says.{IsPacked}
use Rattle.barriers.specs.Knowns.{Task, Writes, Ending, Follows, Over, finds, looks, step_of, followed}
use Rattle.barriers.specs.Kits.{Runs, Stands, own_of, ending_of, said_by, write_said}
use Rattle.at_rest.specs.WriteLaws.{writing}
use Rattle.tagged_calls.specs.KeepLaws.{header_goes}
use Rattle.tagged_calls.specs.LocationLaws.{keep_asks, at_keep}
use Rattle.tagged_calls.specs.TaggedCalls.{as_at_rest}
use Rattle.tagged_calls.specs.TaggedCallLaws.{tagged_plainly}
use Rattle.tagged_calls.specs.PlacedLaws.{placed_asks, placed_goes, placed_plain, placed_looks, placed_follows, placed_over, placed_tells, placed_packed, begins_loaded, begins_kept}
use Rattle.chicken_tags.specs.declared.write.ChickenWrite.{ChickenWrite}
use Rattle.chicken_tags.specs.declared.write.ChickenWrite.TheVariants as write
use Rattle.chicken_tags.specs.ChickenWrites as machine
use Rattle.chicken_tags.specs.ChickenTable.{chicken_fed, chicken}
use Rattle.chicken_tags.specs.ChickenKnowing.{writes, WritesFor}

write_asks : (v : PassView) (m : ChickenWrite) → WritesFor v m → machine.asks_of m ≡ step_of (writes m)
write_asks v (write.Header spot word) for = refl
write_asks v (write.Keep spot word keep) for = keep_asks spot (Writes (field_at word)) keep for.1
write_asks v (write.Field m) for = placed_asks writing v m for

write_goes : (v : PassView) (m : ChickenWrite) (p : Stance) (x : Here) (copy : FieldWord) (n : ℕ) → Stands writes WritesFor v m p x copy n
    → (writes (machine.fed_of m n) ≡ chicken_fed (stance_at v.acked) (own_of false v) (writes m) (finds p x copy (writes m))) × WritesFor v (machine.fed_of m n)
write_goes v (write.Header spot word) p x copy n stands =
    let task : Task = Writes (field_at word) in
    header_goes writes (WritesFor v) (write.Keep spot word) (machine.placed spot word n) as_at_rest spot task tt x n stands.word (λ keep. (refl, (stands.own, keep)))
    (begins_loaded writing v task (λ z. rest_write.Header z word) (λ z. refl) (λ z. stands.own) p x copy n as_at_rest spot (λ y wide is. refl) stands.word)
write_goes v (write.Keep spot word keep) p x copy n stands =
    let own = stands.own in
    let is = own.1 in
    begins_kept writing v (Writes (field_at word)) (λ z. rest_write.Header z word) (λ z. refl) (λ z. own.0) p (at_keep x keep) copy keep.tagged as_at_rest spot (λ y wide is. refl)
    (Some (header_at keep.tagged)) x.state x.colour x.len n is.word is.inside stands.word
write_goes v (write.Field m) p x copy n stands =
    let goes = placed_goes writing v m p x copy n stands.spot stands.own stands.at stands.word in
    let plain = placed_plain writing v m stands.spot stands.own stands.at in
    (goes.0 ∙ sym (tagged_plainly as_at_rest (stance_at v.acked) (writes (write.Field m)) (finds p x copy (writes (write.Field m))) plain), goes.1)

write_looks : (v : PassView) (m : ChickenWrite) (p : Stance) (x : Here) (copy : FieldWord) (n : ℕ) → Stands writes WritesFor v m p x copy n → machine.front m n ≡ looks (own_of false v) (writes m) (finds p x copy (writes m))
write_looks v (write.Header spot word) p x copy n stands = refl
write_looks v (write.Keep spot word keep) p x copy n stands = refl
write_looks v (write.Field m) p x copy n stands = placed_looks writing v m p x copy n stands.spot stands.own stands.at stands.word

write_follows : (v : PassView) (m : ChickenWrite) (s : Spot) (t : Task) (f : FollowMachine) (n : ℕ) → WritesFor v m → writes m ≡ Follows s t f
    → (writes (machine.fed_of m n) ≡ followed s t (follows.fed_of f n)) × WritesFor v (machine.fed_of m n) × (machine.front m n ≡ Stays)
write_follows v (write.Header spot word) s t f n for is = absurd cc
write_follows v (write.Keep spot word keep) s t f n for is = absurd cc
write_follows v (write.Field m) s t f n for is = placed_follows writing v m s t f n for is

write_over : (v : PassView) (m : ChickenWrite) → WritesFor v m → machine.asks_of m ≡ Ended → (s : Spot) × (t : Task) × (end : Ending) × (writes m ≡ Over s t end)
write_over v (write.Header spot word) for is = absurd cc
write_over v (write.Keep spot word keep) for is = absurd cc
write_over v (write.Field m) for is = placed_over writing v m for is

write_tells : (m : ChickenWrite) → machine.end_of m ≡ said_by write_said (ending_of (writes m))
write_tells (write.Header spot word) = refl
write_tells (write.Keep spot word keep) = refl
write_tells (write.Field m) = placed_tells writing m

write_packed : (v : PassView) (m : ChickenWrite) → WritesFor v m → IsPacked (writes m)
write_packed v (write.Header spot word) for = record { task = for.fits; from = tt }
write_packed v (write.Keep spot word keep) for = let packed = for.0 in record { task = packed.fits; from = tt }
write_packed v (write.Field m) for = placed_packed writing v m for

pub chicken_writing : Runs chicken (own_of false) machine.asks_of machine.fed_of machine.front writes WritesFor machine.end_of write_said
chicken_writing = record {
  asks_alike = write_asks;
  goes = write_goes;
  looks_alike = write_looks;
  follows_on = write_follows;
  over = write_over;
  tells = write_tells;
  packed = write_packed;
}
