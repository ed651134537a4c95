-- Steps of a pass that change no object: loads, and stores in its notices and in its region words.
use Rattle.std.proofs.Common.{◌≡◌, ◌≢◌, ℕ, ◌==◌, inl, refl, sym, ap, subst, arith, List, None}
use prog.Atomic.{either}
use Rattle.call_steps.specs.declared.step.Step.{Step}
use Rattle.call_steps.specs.declared.step.Step.TheVariants.{Ended}
use Rattle.call_steps.specs.Steps.{place_of, put_by, applied, IsInside}
use Rattle.call_steps.specs.StepLaws.{reading, Put, applied-puts}
use Rattle.heap_words.specs.Layouts.{Sizes, IsLayout, IsPass, IsRegion, words_of}
use Rattle.space_reclaim.specs.declared.region_word.RegionWord.{RegionWord}
use Rattle.space_reclaim.specs.declared.region_word.RegionWord.TheVariants.{Free}
use Rattle.space_reclaim.specs.OwnRegions.{IsOwn}
use Rattle.handshakes.specs.Handshakes.{Announced}
use Rattle.barriers.specs.Spaces.{Space}
use Rattle.barriers.specs.Says.{Notices, Says, put_region}
use Rattle.barriers.specs.Cycles.{Cycle}
use Rattle.barriers.specs.MoveWords.{IsSpare}
use Rattle.barriers.specs.Kits.{Kit, Stepping}
use Rattle.barriers.proofs.words.Frames.{says_same, put_same}
use Rattle.barriers.proofs.words.Rows.{rows_region}
use Rattle.barriers.proofs.words.Sets.{set_else}
use Rattle.lawful_records.specs.Frames.{SameRegion}
use Rattle.lawful_records.specs.LawfulRecords.{IsPassRecord}
use Rattle.lawful_records.specs.Records.{number_of, side_of}
use Rattle.lawful_records.specs.Turns.{pass_asks, front_by, with_change, LooksOn}
use Rattle.lawful_records.specs.PassTurns.{PassStands, HasTurn, seal_for, found_by, change_in, pass_after}
use Rattle.lawful_records.specs.declared.records.PassKnown.{PassKnown}
use Rattle.lawful_records.proofs.frames.PassStays.{seen_same}
use Rattle.lawful_records.proofs.frames.JobStays.{leaves_same, leaves_region}
use Rattle.lawful_records.proofs.frames.SearchStays.{search_same, search_region}
use Rattle.lawful_records.proofs.frames.Regions.{own_apart}
use Rattle.lawful_records.proofs.frames.SpareStays.{spare_same}
use Rattle.lawful_records.proofs.turns.Holding.{objects_region, seen_region}

-- the notices of all others, and those of the collector, are the same
pub record OthersSame (pass : ℕ) (n o : Notices) : Type 0 where
  pub acks : (other : ℕ) → other ≢ pass → o.ack other ≡ n.ack other
  pub roots : (other reg : ℕ) → other ≢ pass → o.root other reg ≡ n.root other reg
  pub phase : o.phase ≡ n.phase
  pub mark : o.mark ≡ n.mark

pub all_same : (pass : ℕ) (n : Notices) → OthersSame pass n n
all_same pass n = record { acks = λ other apart. refl; roots = λ other reg apart. refl; phase = refl; mark = refl }

-- a region of one pass's own is none of another's
pub others_regions : (l : Sizes) (s : Space) (pass k : ℕ) (x : RegionWord) → ((other : ℕ) → IsPass l other → IsOwn l other k → other ≡ pass) → (other region : ℕ) → IsPass l other → other ≢ pass → IsOwn l other region → SameRegion s (put_region s k x) region
others_regions l s pass k x alone other region is apart own =
    record { word = set_else s.region k region x (λ same. apart (alone other is (subst (IsOwn l other) same own))); ends = refl }

-- the same put, with its place and its word told otherwise
pub put_alike : (m k : ℕ → ℕ) (at put place word : ℕ) → at ≡ place → put ≡ word → Put m k at put → Put m k place word
put_alike m k at put place word place_is word_is was = rw (place_is, word_is) at was

-- the same of an exchange
pub exchange_alike : (m k : ℕ → ℕ) (at want put place word : ℕ) → at ≡ place → put ≡ word → Put m k at (either (m at == want) put (m at)) → Put m k place (either (m place == want) word (m place))
exchange_alike m k at want put place word place_is word_is was = rw (place_is, word_is) at was

-- and with the step told otherwise
pub step_alike : (m k : ℕ → ℕ) (step same : Step) (found : ℕ) → step ≡ same → Put m k (place_of step) (put_by step found) → Put m k (place_of same) (put_by same found)
step_alike m k step same found is was = subst (λ (st : Step). Put m k (place_of st) (put_by st found)) is was

-- a pass's own region is one of the layout
pub own_there : (l : Sizes) (pass region : ℕ) → IsLayout l → IsPass l pass → IsOwn l pass region → IsRegion l region
own_there l pass region fits is own = grind arith

module _ {R W E M : Type 0} (kit : Kit R W E M) (by : Stepping R W E M) (l : Sizes) (a : Announced) (c : Cycle) (s : Space) (n : Notices) (p : PassKnown R W E) (words : List ℕ)
    (stands : PassStands kit by l a c s n p words) (on : pass_asks kit by p.pass.machine ≢ Ended) (inside : IsInside (words_of l) (pass_asks kit by p.pass.machine)) where
  abbrev pub step : Step
  step = pass_asks kit by p.pass.machine

  abbrev pub next : ℕ → ℕ
  next = reading (applied step words)

  pub puts : Put (reading words) next (place_of step) (put_by step (found_by kit by p words))
  puts = applied-puts step words on (subst (λ len. IsInside len step) (sym stands.width) inside)

  module _ (quiet : change_in kit by p words ≡ None) (looks : LooksOn (front_by kit by p.pass.machine (found_by kit by p words)) (seal_for kit by s p.pass.machine) s.history p.seen) (number : number_of (pass_after kit by s p words) ≡ number_of p) where
    -- a store in a notice
    pub notice_turn : (o : Notices) → Says l next s o → IsSpare l next s → OthersSame (number_of p) n o → IsPassRecord kit l a c s o (pass_after kit by s p words) → HasTurn kit by l a c s n p words
    notice_turn o says spare others own = record {
      space = s;
      notices = o;
      turn = record {
        says = says;
        spare = spare;
        rows = stands.rows;
        objects = stands.objects;
        lens = stands.lens;
        beside = record {
          seen = seen_same kit.protocol c s;
          acks = others.acks;
          roots = others.roots;
          phase = others.phase;
          mark = others.mark;
          regions = λ pass region is other own. record { word = refl; ends = refl };
          history = inl refl;
        };
        leaves = leaves_same kit.protocol l c s;
        search = search_same kit.kind c (side_of kit p) s;
        fields = λ at f home less. inl (home, less, refl);
        history = ap (λ change. with_change change s.history) (sym quiet);
        number = number;
        looks = looks;
        own = own;
      };
    }

    -- a load, or an exchange that fails
    pub load_turn : put_by step (found_by kit by p words) ≡ found_by kit by p words → IsPassRecord kit l a c s n (pass_after kit by s p words) → HasTurn kit by l a c s n p words
    load_turn same own =
        let alike : (at : ℕ) → next at ≡ reading words at = put_same (reading words) next (place_of step) (put_by step (found_by kit by p words)) puts same in
        notice_turn n (says_same l (reading words) next s n alike stands.rows stands.says) (spare_same l (reading words) next s stands.spare alike) (all_same (number_of p) n) own

    -- a store in the word of a region of the pass's own
    pub region_turn : (k : ℕ) (x : RegionWord) → Says l next (put_region s k x) n → IsSpare l next s → x ≢ Free → IsOwn l (number_of p) k → IsPassRecord kit l a c (put_region s k x) n (pass_after kit by s p words) → HasTurn kit by l a c s n p words
    region_turn k x says spare used owned own = record {
      space = put_region s k x;
      notices = n;
      turn = record {
        says = says;
        spare = spare;
        rows = rows_region l s.state s.len s.ends s.region stands.rows k x (λ free. absurd (used free));
        objects = objects_region kit.protocol c s k x stands.objects;
        lens = stands.lens;
        beside = record {
          seen = seen_region kit.protocol c s k x;
          acks = λ other apart. refl;
          roots = λ other reg apart. refl;
          phase = refl;
          mark = refl;
          regions = others_regions l s (number_of p) k x (λ other is its. own_apart l other (number_of p) k stands.layout is stands.own.number its owned);
          history = inl refl;
        };
        leaves = leaves_region kit.protocol c s k x l (omega (arith, owned.0));
        search = search_region kit.kind c (side_of kit p) s k x;
        fields = λ at f home less. inl (home, less, refl);
        history = ap (λ change. with_change change s.history) (sym quiet);
        number = number;
        looks = looks;
        own = own;
      };
    }
