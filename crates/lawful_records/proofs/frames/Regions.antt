-- Regions of passes' own are apart.
use Rattle.std.proofs.Common.{◌≡◌, ℕ, ◌+◌, ◌*◌, ◌-◌, ◌≤◌, ◌<◌, ⊎_elim, arith}
use Rattle.std.proofs.Math.Nat.{mul-le-mul_right}
use Rattle.std.proofs.lemmas.Bool.{cases_lt}
use Rattle.heap_words.specs.Layouts.{Sizes, IsLayout, IsPass}
use Rattle.space_reclaim.specs.OwnRegions.{IsOwn}

-- those of a later pass come later
own_rises : (quota p q : ℕ) → p < q → p * quota + quota ≤ q * quota
own_rises quota p q less = let more : (p + 1) * quota ≤ q * quota = mul-le-mul_right quota (omega arith) in omega (arith, more)

not_before : (l : Sizes) (p q region : ℕ) → IsLayout l → IsPass l p → IsOwn l p region → IsOwn l q region → p < q → ⊥
not_before l p q region layout is_p own_p own_q less = omega (arith, own_rises l.quota (p - 1) (q - 1) (omega (arith, is_p.0, less)), layout.quota.0, own_p.1, own_q.0)

-- a region is one pass's own
pub own_apart : (l : Sizes) (p q region : ℕ) → IsLayout l → IsPass l p → IsPass l q → IsOwn l p region → IsOwn l q region → p ≡ q
own_apart l p q region layout is_p is_q own_p own_q =
    let up : p < q → ⊥ = not_before l p q region layout is_p own_p own_q in
    let down : q < p → ⊥ = not_before l q p region layout is_q own_q own_p in
    ⊎_elim (λ less. absurd (up less)) (λ no. ⊎_elim (λ less. absurd (down less)) (λ not. omega (arith, no, not)) (cases_lt q p)) (cases_lt p q)
