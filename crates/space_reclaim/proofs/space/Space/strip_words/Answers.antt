use Rattle.std.proofs.Common.{◌≤◌, length, arith}
use Rattle.space_reclaim.proofs.plans.Rising.{length-rising}
use Rattle.space_reclaim.proofs.space.Space.strip_words.Goals as goal
use Rattle.space_reclaim.proofs.space.Space.strip_words.Goals.{After-self}

few : (c : After-self) → length c.self.inside.pool_free.now ≤ 512
few c =
    let regions : length c.self.inside.pool_free.now ≤ c.self.inside.layout.pool = length-rising (λ region. region) c.self.inside.pool_free.now c.self.inside.layout.pool c.self.invariant.1.pool_rises c.self.invariant.1.in_pool in
    omega (arith, c.self.invariant.0.pool)

pub overflow_cast-result : goal.overflow_cast-result
overflow_cast-result c = omega (arith, few (goal.at.overflow_cast-result c).After-self)

pub overflow_mul-result : goal.overflow_mul-result
overflow_mul-result c = omega (arith, few (goal.at.overflow_mul-result c).After-self)

pub returns-clause-few : goal.returns-clause-few
returns-clause-few c = omega (arith, few (goal.at.returns-clause-few c).After-self)
