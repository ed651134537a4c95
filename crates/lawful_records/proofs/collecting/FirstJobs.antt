-- The plan of the first cycle, while it is that of the common object, is one.
use Rattle.std.specs.Prelude.{◌^◌, ◌<◌, ◌&&◌, nat_le, if◌then◌else◌}
use Rattle.std.specs.List.{All}
use Rattle.std.proofs.Common.{◌≡◌, ◌≢◌, ℕ, ◌+◌, ◌≤◌, Bool, true, false, [], ◌∷◌, refl, sym, arith}
use Rattle.std.proofs.lemmas.Bool.Decides.{nat_tests}
use Rattle.std.proofs.lemmas.List.Elements.{All-nil, All-cons}
use Rattle.heap_words.specs.Layouts.{Sizes, IsLayout, first_word, wide_at}
use Rattle.heap_words.specs.PlaceLaws.{words_of-bound}
use Rattle.object_headers.specs.declared.change.Kind.{Kind}
use Rattle.object_headers.specs.declared.change.Kind.TheVariants as kinds
use Rattle.object_headers.specs.declared.header.Colour.TheVariants.{Even}
use Rattle.object_headers.specs.Changes.{is_stopless, is_clover, does_tag, does_move}
use Rattle.barriers.specs.MoveSteps.{IsJob}
use Rattle.barriers.specs.Rows.{region_of}
use Rattle.barriers.proofs.words.Regions.{region_is, first_next}
use Rattle.lawful_records.specs.declared.job.TheConstants.{EMPTIED, FILLED}
use Rattle.lawful_records.specs.Jobs.{wide_for, has_wide_room, has_job, first_job, first_plan}
use Rattle.lawful_records.specs.JobStands.{IsPlannedJob, IsPlan}

-- what is known where the common object is moved
pub record HasFirst (kind : Kind) (l : Sizes) : Type 0 where
  pub moves : does_move kind ≡ true
  pub pool : 2 ≤ l.pool
  pub room : has_wide_room kind l ≡ true

first_by : (kind : Kind) (l : Sizes) (moves pool room : Bool) → does_move kind ≡ moves → nat_le 2 l.pool ≡ pool → has_wide_room kind l ≡ room → (moves && pool && room) ≡ true → HasFirst kind l
first_by kind l true true true is_kind is_pool is_room e = record { moves = is_kind; pool = grind (arith, nat_tests); room = is_room }
first_by kind l true true false is_kind is_pool is_room e = absurd (cc e)
first_by kind l true false room is_kind is_pool is_room e = absurd (cc e)
first_by kind l false pool room is_kind is_pool is_room e = absurd (cc e)

pub has_first : (kind : Kind) (l : Sizes) → has_job kind l ≡ true → HasFirst kind l
has_first kind l e = first_by kind l (does_move kind) (nat_le 2 l.pool) (has_wide_room kind l) refl refl refl e

-- what is moved without a mark is tagged
pub tags_by : (kind : Kind) → does_move kind ≡ true → is_clover kind ≡ false → does_tag kind ≡ true
tags_by kinds.Stopless moves plain = refl
tags_by kinds.Chicken moves plain = refl
tags_by kinds.AtRest moves plain = moves
tags_by kinds.Clover moves plain = sym plain

-- ---- its wide object

-- it has one where objects are copied through wide objects
wide_there : (kind : Kind) (l : Sizes) → is_stopless kind ≡ true → wide_for kind l ≢ 0
wide_there kinds.Stopless l is none = omega (arith, none)
wide_there kinds.Chicken l is none = cc is
wide_there kinds.AtRest l is none = cc is
wide_there kinds.Clover l is none = cc is

-- and that lies in the wide area
pub wide_inside : (kind : Kind) (l : Sizes) → has_wide_room kind l ≡ true → wide_for kind l ≢ 0 → (wide_at l ≤ wide_for kind l) × (wide_for kind l + 8 < wide_at l + l.wide)
wide_inside kinds.Stopless l room some = (omega arith, grind (arith, nat_tests, room))
wide_inside kinds.Chicken l room some = absurd (some refl)
wide_inside kinds.AtRest l room some = absurd (some refl)
wide_inside kinds.Clover l room some = absurd (some refl)

-- ---- its places

pub filled_region : (l : Sizes) → region_of l (first_word l FILLED) ≡ FILLED
filled_region l = region_is l (first_word l FILLED) FILLED (omega arith) (let next = first_next l FILLED in omega (arith, next))

module _ (l : Sizes) (fits : IsLayout l) where
  bound : first_word l FILLED + 64 < 2 ^ 20
  bound = let most = words_of-bound l fits in omega (arith, most, fits.passes.0, fits.quota.0, fits.pool.0)

  wide_near : (kind : Kind) → wide_for kind l < 2 ^ 20
  wide_near kinds.Stopless = let most = words_of-bound l fits in omega (arith, most)
  wide_near kinds.Chicken = omega arith
  wide_near kinds.AtRest = omega arith
  wide_near kinds.Clover = omega arith

  pub is_job : (kind : Kind) → IsJob (first_job kind l)
  is_job kind = record { colour = Even; header = refl; few = omega arith; born = (omega arith, omega arith); near = (let b = bound in omega (arith, b), let b = bound in omega (arith, b), wide_near kind) }

  -- ---- the plan

  is_planned : (kind : Kind) → HasFirst kind l → IsPlannedJob kind (first_job kind l)
  is_planned kind has = record { moves = has.moves; job = is_job kind; wide = wide_there kind l }

  abbrev IsLow : ℕ → Type 0
  IsLow region = region < l.pool

  chosen_by : (kind : Kind) (has : Bool) → has_job kind l ≡ has → All IsLow (if has then EMPTIED ∷ [] else [])
  chosen_by kind true e = All-cons IsLow EMPTIED [] (let has = has_first kind l e in omega (arith, has.pool)) (All-nil IsLow)
  chosen_by kind false e = All-nil IsLow

  jobs_by : (kind : Kind) (has : Bool) → has_job kind l ≡ has → All (IsPlannedJob kind) (if has then first_job kind l ∷ [] else [])
  jobs_by kind true e = All-cons (IsPlannedJob kind) (first_job kind l) [] (is_planned kind (has_first kind l e)) (All-nil (IsPlannedJob kind))
  jobs_by kind false e = All-nil (IsPlannedJob kind)

  pub first_is_plan : (kind : Kind) → IsPlan kind l (first_plan kind l)
  first_is_plan kind = record { chosen = chosen_by kind (has_job kind l) refl; jobs = jobs_by kind (has_job kind l) refl }
