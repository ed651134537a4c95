-- The machine that a pass is in.
use Rattle.std.specs.Prelude.{◌≡◌, ◌≢◌, ℕ, ◌<◌, refl}
use Rattle.std.proofs.Common.{ap}
use Rattle.call_steps.specs.declared.step.Step.{Step}
use Rattle.call_steps.specs.declared.step.Step.TheVariants.{Store, Ended}
use Rattle.handshakes.specs.Polls as polls
use Rattle.handshakes.specs.Retires as retires
use Rattle.barriers.specs.NewObjects as makes
use Rattle.barriers.specs.declared.front.Front.{Front}
use Rattle.barriers.specs.declared.front.Front.TheVariants.{Stays}
use Rattle.barriers.specs.declared.pass.PassMachine.{PassMachine}
use Rattle.barriers.specs.declared.pass.PassMachine.TheVariants as machine

-- its next step
abbrev pub asks_of : {R W E : Type 0} → (R → Step) → (W → Step) → (E → Step) → PassMachine R W E → Step
asks_of r w e (machine.Poll m) = polls.asks_of m
asks_of r w e (machine.New m) = makes.asks_of m
asks_of r w e (machine.Read m) = r m
asks_of r w e (machine.Write m) = w m
asks_of r w e (machine.Exchange m) = e m
asks_of r w e (machine.Retire m) = retires.asks_of m
asks_of r w e machine.Idle = Ended
asks_of r w e machine.Retired = Ended

-- it, fed with a word
abbrev pub fed_of : {R W E : Type 0} → (R → ℕ → R) → (W → ℕ → W) → (E → ℕ → E) → PassMachine R W E → ℕ → PassMachine R W E
fed_of r w e (machine.Poll m) found = machine.Poll (polls.fed_of m found)
fed_of r w e (machine.New m) found = machine.New (makes.fed_of m found)
fed_of r w e (machine.Read m) found = machine.Read (r m found)
fed_of r w e (machine.Write m) found = machine.Write (w m found)
fed_of r w e (machine.Exchange m) found = machine.Exchange (e m found)
fed_of r w e (machine.Retire m) found = machine.Retire (retires.fed_of m found)
fed_of r w e machine.Idle found = machine.Idle
fed_of r w e machine.Retired found = machine.Retired

-- how many steps are left at most
abbrev pub left_of : {R W E : Type 0} → (R → ℕ) → (W → ℕ) → (E → ℕ) → PassMachine R W E → ℕ
left_of r w e (machine.Poll m) = polls.left_of m
left_of r w e (machine.New m) = makes.left_of m
left_of r w e (machine.Read m) = r m
left_of r w e (machine.Write m) = w m
left_of r w e (machine.Exchange m) = e m
left_of r w e (machine.Retire m) = retires.left_of m
left_of r w e machine.Idle = 0
left_of r w e machine.Retired = 0

-- what its step makes of the changes that the pass has seen, where it finds this word and changes nothing: only accesses look
abbrev pub front_of : {R W E : Type 0} → (R → ℕ → Front) → (W → ℕ → Front) → (E → ℕ → Front) → PassMachine R W E → ℕ → Front
front_of r w e (machine.Read m) found = r m found
front_of r w e (machine.Write m) found = w m found
front_of r w e (machine.Exchange m) found = e m found
front_of r w e m found = Stays

-- ---- the laws of machines

-- after a store it goes on alike for every word
abbrev pub IsBlind : {M : Type 0} → (M → Step) → (M → ℕ → M) → Type 0
IsBlind {M} asks fed = (m : M) (at put n : ℕ) → asks m ≡ Store at put → fed m n ≡ fed m 0

-- where it has ended no step is left, and it has ended where none is
abbrev pub HasNoneLeft : {M : Type 0} → (M → Step) → (M → ℕ) → Type 0
HasNoneLeft {M} asks left = (m : M) → asks m ≡ Ended → left m ≡ 0

abbrev pub HasSomeLeft : {M : Type 0} → (M → Step) → (M → ℕ) → Type 0
HasSomeLeft {M} asks left = (m : M) → left m ≡ 0 → asks m ≡ Ended

-- each word that it is fed lowers the bound
abbrev pub Falls : {M : Type 0} → (M → Step) → (M → ℕ → M) → (M → ℕ) → Type 0
Falls {M} asks fed left = (m : M) (n : ℕ) → asks m ≢ Ended → left (fed m n) < left m

pub blind_of : {R W E : Type 0} (ar : R → Step) (aw : W → Step) (ae : E → Step) (fr : R → ℕ → R) (fw : W → ℕ → W) (fe : E → ℕ → E)
    → IsBlind ar fr → IsBlind aw fw → IsBlind ae fe → IsBlind (asks_of ar aw ae) (fed_of fr fw fe)
blind_of ar aw ae fr fw fe r w e (machine.Poll m) at put n is = ap (λ x. machine.Poll x) (polls.blind_of m at put n is)
blind_of ar aw ae fr fw fe r w e (machine.New m) at put n is = ap (λ x. machine.New x) (makes.blind_of m at put n is)
blind_of ar aw ae fr fw fe r w e (machine.Read m) at put n is = ap (λ x. machine.Read x) (r m at put n is)
blind_of ar aw ae fr fw fe r w e (machine.Write m) at put n is = ap (λ x. machine.Write x) (w m at put n is)
blind_of ar aw ae fr fw fe r w e (machine.Exchange m) at put n is = ap (λ x. machine.Exchange x) (e m at put n is)
blind_of ar aw ae fr fw fe r w e (machine.Retire m) at put n is = ap (λ x. machine.Retire x) (retires.blind_of m at put n is)
blind_of ar aw ae fr fw fe r w e machine.Idle at put n is = refl
blind_of ar aw ae fr fw fe r w e machine.Retired at put n is = refl

pub none_left_of : {R W E : Type 0} (ar : R → Step) (aw : W → Step) (ae : E → Step) (lr : R → ℕ) (lw : W → ℕ) (le : E → ℕ)
    → HasNoneLeft ar lr → HasNoneLeft aw lw → HasNoneLeft ae le → HasNoneLeft (asks_of ar aw ae) (left_of lr lw le)
none_left_of ar aw ae lr lw le r w e (machine.Poll m) is = polls.none_left_of m is
none_left_of ar aw ae lr lw le r w e (machine.New m) is = makes.none_left_of m is
none_left_of ar aw ae lr lw le r w e (machine.Read m) is = r m is
none_left_of ar aw ae lr lw le r w e (machine.Write m) is = w m is
none_left_of ar aw ae lr lw le r w e (machine.Exchange m) is = e m is
none_left_of ar aw ae lr lw le r w e (machine.Retire m) is = retires.none_left_of m is
none_left_of ar aw ae lr lw le r w e machine.Idle is = refl
none_left_of ar aw ae lr lw le r w e machine.Retired is = refl

pub some_left_of : {R W E : Type 0} (ar : R → Step) (aw : W → Step) (ae : E → Step) (lr : R → ℕ) (lw : W → ℕ) (le : E → ℕ)
    → HasSomeLeft ar lr → HasSomeLeft aw lw → HasSomeLeft ae le → HasSomeLeft (asks_of ar aw ae) (left_of lr lw le)
some_left_of ar aw ae lr lw le r w e (machine.Poll m) is = polls.some_left_of m is
some_left_of ar aw ae lr lw le r w e (machine.New m) is = makes.some_left_of m is
some_left_of ar aw ae lr lw le r w e (machine.Read m) is = r m is
some_left_of ar aw ae lr lw le r w e (machine.Write m) is = w m is
some_left_of ar aw ae lr lw le r w e (machine.Exchange m) is = e m is
some_left_of ar aw ae lr lw le r w e (machine.Retire m) is = retires.some_left_of m is
some_left_of ar aw ae lr lw le r w e machine.Idle is = refl
some_left_of ar aw ae lr lw le r w e machine.Retired is = refl

pub falls_of : {R W E : Type 0} (ar : R → Step) (aw : W → Step) (ae : E → Step) (fr : R → ℕ → R) (fw : W → ℕ → W) (fe : E → ℕ → E) (lr : R → ℕ) (lw : W → ℕ) (le : E → ℕ)
    → Falls ar fr lr → Falls aw fw lw → Falls ae fe le → Falls (asks_of ar aw ae) (fed_of fr fw fe) (left_of lr lw le)
falls_of ar aw ae fr fw fe lr lw le r w e (machine.Poll m) n on = polls.falls_of m n on
falls_of ar aw ae fr fw fe lr lw le r w e (machine.New m) n on = makes.falls_of m n on
falls_of ar aw ae fr fw fe lr lw le r w e (machine.Read m) n on = r m n on
falls_of ar aw ae fr fw fe lr lw le r w e (machine.Write m) n on = w m n on
falls_of ar aw ae fr fw fe lr lw le r w e (machine.Exchange m) n on = e m n on
falls_of ar aw ae fr fw fe lr lw le r w e (machine.Retire m) n on = retires.falls_of m n on
falls_of ar aw ae fr fw fe lr lw le r w e machine.Idle n on = absurd (on refl)
falls_of ar aw ae fr fw fe lr lw le r w e machine.Retired n on = absurd (on refl)
