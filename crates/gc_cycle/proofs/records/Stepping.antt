-- The front of a machine's step.
use Rattle.std.proofs.Common.{◌≡◌, ℕ, refl}
use Rattle.barriers.specs.declared.pass.PassMachine.{PassMachine}
use Rattle.barriers.specs.declared.pass.PassMachine.TheVariants as machine
use Rattle.barriers.specs.PassMachines as passes
use Rattle.barriers.specs.Kits.{Kit, Stepping}
use Rattle.lawful_records.specs.Turns.{front_by}

module _ {R W E M : Type 0} (kit : Kit R W E M) (by : Stepping R W E M) where
  pub front_is : (m : PassMachine R W E) (n : ℕ) → passes.front_of by.read_front by.write_front by.exchange_front m n ≡ front_by kit by m n
  front_is machine.Idle n = refl
  front_is machine.Retired n = refl
  front_is (machine.Poll m) n = refl
  front_is (machine.New m) n = refl
  front_is (machine.Read m) n = refl
  front_is (machine.Write m) n = refl
  front_is (machine.Exchange m) n = refl
  front_is (machine.Retire m) n = refl
