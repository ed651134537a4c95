-- The step functions of a copier's machines, in one record.
use Rattle.std.specs.Prelude.{ℕ}
use Rattle.call_steps.specs.declared.step.Step.{Step}
use Rattle.barriers.specs.declared.front.Front.{Front}
use Rattle.barriers.specs.Kits.{Stepping}

-- what reads, writes, exchanges and moves ask for; what they are when they were fed; the fronts of the first three, and their steps left
abbrev pub stepping_of : {R W E M : Type 0} → (R → Step) → (W → Step) → (E → Step) → (M → Step) → (R → ℕ → R) → (W → ℕ → W) → (E → ℕ → E) → (M → ℕ → M)
    → (R → ℕ → Front) → (W → ℕ → Front) → (E → ℕ → Front) → (R → ℕ) → (W → ℕ) → (E → ℕ) → Stepping R W E M
stepping_of ra wa ea ma rf wf ef mf rn wn en rl wl el = record {
  read_asks = ra;
  write_asks = wa;
  exchange_asks = ea;
  move_asks = ma;
  read_fed = rf;
  write_fed = wf;
  exchange_fed = ef;
  move_fed = mf;
  read_front = rn;
  write_front = wn;
  exchange_front = en;
  read_left = rl;
  write_left = wl;
  exchange_left = el;
}
