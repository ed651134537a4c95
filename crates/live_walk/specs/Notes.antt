-- What a walk has noted.
use Rattle.std.specs.Prelude.{ℕ, ◌*◌, ◌≤◌, List, [], ◌∷◌, ◌++◌, Option, Some, None}
use Rattle.heap_words.specs.Layouts.{Sizes, IsLayout, regions_of}
use Rattle.space_reclaim.specs.declared.plan.RegionLive.{RegionLive}
use Rattle.space_reclaim.specs.declared.plan.ObjectRow.{ObjectRow}
use Rattle.live_walk.specs.declared.note.Finding.{Finding}

-- the regions that were Filled with the words of their live objects, these objects, and the free regions of the pool;
-- and the layout for which there is room
pub record Notes : Type 0 where
  pub layout : Sizes
  pub live : List RegionLive
  pub objects : List ObjectRow
  pub pool_free : List ℕ

-- before the walk
abbrev pub nothing_noted : Sizes → Notes
nothing_noted l = record { layout = l; live = []; objects = []; pool_free = [] }

-- with one more, if there is one
abbrev pub with_one : {X : Type 0} → List X → Option X → List X
with_one xs None = xs
with_one xs (Some x) = xs ++ x ∷ []

-- with what a step has told
abbrev pub noted_with : Notes → Finding → Notes
noted_with n f = record {
  layout = n.layout;
  live = with_one n.live f.region;
  objects = with_one n.objects f.object;
  pool_free = with_one n.pool_free f.free;
}

-- what holds of the layout and of the reserved rooms: a row for each region, 64 objects in each, the regions of the pool
pub record IsRoomy (l : Sizes) (live_room object_room pool_room : ℕ) : Type 0 where
  pub layout : IsLayout l
  pub live : regions_of l ≤ live_room
  pub objects : 64 * regions_of l ≤ object_room
  pub pool_free : l.pool ≤ pool_room
