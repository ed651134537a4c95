-- A write to an object at rest does what is known of it.
use Rattle.std.specs.Prelude.{◌≡◌, ℕ, nat_lt, if◌then◌else◌, Bool, true, false, refl}
use Rattle.std.proofs.Common.{ap, sym, subst}
use Rattle.call_steps.specs.declared.step.Step.TheVariants.{Store, Ended}
use Rattle.heap_words.specs.declared.field_word.FieldWord.{FieldWord}
use Rattle.heap_words.specs.FieldWords.{field_at}
use Rattle.handshakes.specs.declared.pass_view.PassView.{PassView}
use Rattle.handshakes.specs.Follows as follows
use Rattle.handshakes.specs.declared.follow.FollowMachine.{FollowMachine}
use Rattle.barriers.specs.declared.spot.Spot.{Spot}
use Rattle.barriers.specs.declared.front.Front.TheVariants.{Stays}
use Rattle.barriers.specs.declared.ends.WriteEnd.TheVariants as write_end
use Rattle.barriers.specs.declared.ends.TryRefusal.TheVariants as refusal
use Rattle.barriers.specs.declared.write.WriteMachine.{WriteMachine}
use Rattle.barriers.specs.declared.write.WriteMachine.TheVariants as write
use Rattle.barriers.specs.Stances.{Stance, stance_at}
use Rattle.barriers.specs.Spaces.{Here}
use Rattle.barriers.specs.Knowns.{Task, Writes, Ending, Stores, Follows, Over, finds, looks, step_of, followed}
use Rattle.barriers.specs.PlainCalls.{where_field}
use Rattle.barriers.specs.Says.{IsPacked}
use Rattle.barriers.specs.Writes as machine_of_write
use Rattle.barriers.specs.Kits.{Runs, Stands, own_of, ending_of, said_by, write_said}
use Rattle.at_rest.specs.RestTable.{at_rest, rest_fed}
use Rattle.at_rest.specs.Knowing.{IsPackedWord, writes, write_ending, WritesFor}
use Rattle.at_rest.specs.ReadLaws.{len_found}

write_asks : (v : PassView) (m : WriteMachine) → WritesFor v m → machine_of_write.asks_of m ≡ step_of (writes m)
write_asks v (write.Header spot word) for = refl
write_asks v (write.Field spot word) for = ap (λ (put : ℕ). Store spot.place put) for.same
write_asks v (write.Ended spot word end) for = refl

-- for want of the field
abbrev lacking : Spot → ℕ → ℕ → WriteMachine
lacking spot word len = write.Ended spot word (write_end.Refused (refusal.NoField len))

write_by_len : (v : PassView) (spot : Spot) (word len : ℕ) (b : Bool) → IsPackedWord word
    → (writes (if b then write.Field spot word else lacking spot word len) ≡ (if b then Stores spot (field_at word) else writes (lacking spot word len))) × WritesFor v (if b then write.Field spot word else lacking spot word len)
write_by_len v spot word len true packed = (refl, packed)
write_by_len v spot word len false packed = (refl, packed)

write_goes : (v : PassView) (m : WriteMachine) (p : Stance) (x : Here) (copy : FieldWord) (n : ℕ) → Stands writes WritesFor v m p x copy n
    → (writes (machine_of_write.fed_of m n) ≡ rest_fed (stance_at v.acked) (own_of false v) (writes m) (finds p x copy (writes m))) × WritesFor v (machine_of_write.fed_of m n)
write_goes v (write.Header spot word) p x copy n stands =
    let len = len_found spot.birth x.state x.colour x.len n stands.word in
    subst
    (λ (l : ℕ). (writes (machine_of_write.by_len spot word l) ≡ where_field spot (Writes (field_at word)) x.len (Stores spot (field_at word))) × WritesFor v (machine_of_write.by_len spot word l))
    (sym len) (write_by_len v spot word x.len (nat_lt spot.field x.len) stands.own)
write_goes v (write.Field spot word) p x copy n stands = (refl, stands.own)
write_goes v (write.Ended spot word end) p x copy n stands = absurd (let e = stands.at in cc)

write_looks : (v : PassView) (m : WriteMachine) (p : Stance) (x : Here) (copy : FieldWord) (n : ℕ) → Stands writes WritesFor v m p x copy n → machine_of_write.front m n ≡ looks (own_of false v) (writes m) (finds p x copy (writes m))
write_looks v (write.Header spot word) p x copy n stands = refl
write_looks v (write.Field spot word) p x copy n stands = refl
write_looks v (write.Ended spot word end) p x copy n stands = refl

write_follows : (v : PassView) (m : WriteMachine) (s : Spot) (t : Task) (f : FollowMachine) (n : ℕ) → WritesFor v m → writes m ≡ Follows s t f
    → (writes (machine_of_write.fed_of m n) ≡ followed s t (follows.fed_of f n)) × WritesFor v (machine_of_write.fed_of m n) × (machine_of_write.front m n ≡ Stays)
write_follows v (write.Header spot word) s t f n for e = absurd cc
write_follows v (write.Field spot word) s t f n for e = absurd cc
write_follows v (write.Ended spot word end) s t f n for e = absurd cc

write_over : (v : PassView) (m : WriteMachine) → WritesFor v m → machine_of_write.asks_of m ≡ Ended → (s : Spot) × (t : Task) × (end : Ending) × (writes m ≡ Over s t end)
write_over v (write.Header spot word) for e = absurd cc
write_over v (write.Field spot word) for e = absurd cc
write_over v (write.Ended spot word end) for e = (spot, Writes (field_at word), write_ending end, refl)

write_tells : (m : WriteMachine) → machine_of_write.end_of m ≡ said_by write_said (ending_of (writes m))
write_tells (write.Header spot word) = refl
write_tells (write.Field spot word) = refl
write_tells (write.Ended spot word write_end.Wrote) = refl
write_tells (write.Ended spot word (write_end.Refused why)) = refl

write_packed : (v : PassView) (m : WriteMachine) → WritesFor v m → IsPacked (writes m)
write_packed v (write.Header spot word) for = record { task = for.fits; from = tt }
write_packed v (write.Field spot word) for = record { task = for.fits; from = tt }
write_packed v (write.Ended spot word end) for = record { task = for.fits; from = tt }

pub writing : Runs at_rest (own_of false) machine_of_write.asks_of machine_of_write.fed_of machine_of_write.front writes WritesFor machine_of_write.end_of write_said
writing = record {
  asks_alike = write_asks;
  goes = write_goes;
  looks_alike = write_looks;
  follows_on = write_follows;
  over = write_over;
  tells = write_tells;
  packed = write_packed;
}
