-- A machine that has ended did what its command asked for.
use Rattle.std.proofs.Common.{◌≡◌, ℕ, ◌<◌, ◌≤◌, List, ◌∷◌, Option, Some, None, refl, sym, ap, ◌∙◌, subst, arith}
use Rattle.heap_words.specs.Layouts.{Sizes, IsLayout, IsPass, first_word}
use Rattle.object_headers.specs.declared.header.Header.{Header}
use Rattle.object_headers.specs.Headers.{IsHeader, header_at}
use Rattle.object_headers.specs.HeaderLaws.{header_at-word_of_header}
use Rattle.space_reclaim.specs.OwnRegions.{first_own}
use Rattle.heap_history.specs.declared.call.Call.{Call}
use Rattle.heap_history.specs.declared.call.Call.TheVariants as calls
use Rattle.heap_script.specs.declared.script.Command.{Command}
use Rattle.heap_script.specs.declared.script.Command.TheVariants as commands
use Rattle.heap_script.specs.Scripts.{CommandFits}
use Rattle.barriers.specs.declared.room.Room.{Room}
use Rattle.barriers.specs.declared.ends.NewEnd.{NewEnd}
use Rattle.barriers.specs.declared.ends.NewEnd.TheVariants as new_end
use Rattle.barriers.specs.declared.new_object.NewMachine.{NewMachine}
use Rattle.barriers.specs.declared.new_object.NewMachine.TheVariants as make
use Rattle.barriers.specs.declared.new_object.Placement.{Placement}
use Rattle.barriers.specs.declared.machine_end.MachineEnd.{MachineEnd}
use Rattle.barriers.specs.declared.pass.PassMachine.{PassMachine}
use Rattle.barriers.specs.declared.pass.PassMachine.TheVariants as machine
use Rattle.barriers.specs.NewObjects.{new_header, next_birth, placed}
use Rattle.barriers.specs.NewObjects as makes
use Rattle.barriers.specs.Knowns.{Known}
use Rattle.barriers.specs.Kits.{Kit, Stepping}
use Rattle.lawful_records.specs.Records.{known_of}
use Rattle.lawful_records.specs.Turns.{change_new, change_by, pass_fed}
use Rattle.lawful_records.specs.declared.records.PassKnown.{PassKnown}
use Rattle.lawful_records.proofs.calls.CallSteps.{CallKept}
use Rattle.gc_cycle.specs.Lawful.{IsAt, IsMakingOf, IsNextObject, access_of}
use Rattle.gc_cycle.proofs.records.Ends.{Outcome, Polls, Makes, Reads, Writes, Exchanges, Retires, IsDone, IsNew, IsAccess}
use Rattle.gc_cycle.proofs.records.Changes.{claimed_unmade}

-- the header of a new object says how many fields it has
placed_len : (l : Sizes) (pass made len : ℕ) (placement : Placement) → IsLayout l → IsPass l pass → made < 262144 → len ≤ 30 → IsNextObject pass made len placement → (let header = header_at placement.header in header.len) ≡ len
placed_len l pass made len placement layout is few short next =
    let birth : ℕ = next_birth pass made in
    let fits : IsHeader (new_header len birth) = record { len = short; birth = omega (arith, layout.passes.1, is.1, few); target = omega arith; state = (omega arith, refl) } in
    ap (λ (word : ℕ). (header_at word).len) next.1 ∙ ap (λ (h : Header). h.len) (header_at-word_of_header (new_header len birth) fits)

module _ {R W E M : Type 0} (kit : Kit R W E M) (by : Stepping R W E M) where
  -- what was last seen is this change
  abbrev pub HasSeen : List Call → Option Call → Type 0
  HasSeen seen None = Unit {0}
  HasSeen seen (Some c) = (h : List Call) × (seen ≡ c ∷ h)

  news_done : (l : Sizes) (pass made len : ℕ) (room : Room) (seen : List Call) (x : NewMachine) (n : ℕ) (e : NewEnd) → IsLayout l → IsPass l pass → made < 262144 → len ≤ 30
      → IsMakingOf l pass room made len x → makes.fed_of x n ≡ make.Ended e → HasSeen seen (change_new x pass) → IsNew kit pass len seen e
  news_done l pass made len room seen (make.Header placement) n e layout is few short at fed has =
      let same : new_end.Made placement.birth placement.at placement.room ≡ e = cc in
      let long = placed_len l pass made len placement layout is few short at in
      subst (IsNew kit pass len seen) same (has.0, has.1 ∙ ap (λ k. calls.NewObject pass placement.birth k ∷ has.0) long)
  news_done l pass made len room seen (make.Look plan round) n (new_end.Made birth at_is room_is) layout is few short at fed has = absurd (claimed_unmade plan _ birth at_is room_is fed)
  news_done l pass made len room seen (make.Look plan round) n (new_end.Refused why) layout is few short at fed has = tt
  news_done l pass made len room seen (make.Claim plan round) n (new_end.Made birth at_is room_is) layout is few short at fed has = absurd (claimed_unmade plan _ birth at_is room_is fed)
  news_done l pass made len room seen (make.Claim plan round) n (new_end.Refused why) layout is few short at fed has = tt
  news_done l pass made len room seen (make.Fill at_is placement) n e layout is few short at fed has = absurd cc
  news_done l pass made len room seen (make.Ended end) n e layout is few short at fed has = absurd at

  access_done : (pass : ℕ) (k next : Known) (call : Call) → CallKept k next → access_of pass k ≡ call → IsAccess kit pass next call
  access_done pass k next call kept is = (rw (kept.same.spot, kept.same.task) is, kept.ends)

  poll_done : (q : PassKnown R W E) (command : Command) (m : _) → IsDone kit q command (machine.Poll m)
  poll_done q (commands.New dst len) m = tt
  poll_done q (commands.Get dst obj field) m = tt
  poll_done q (commands.Put obj field what) m = tt
  poll_done q (commands.Cas dst obj field expected value) m = tt
  poll_done q (commands.Copy dst src) m = tt
  poll_done q (commands.Drop dst) m = tt
  poll_done q commands.Poll m = tt

  -- the record after a step of this machine
  abbrev pub stepped_known : PassKnown R W E → PassMachine R W E → ℕ → ℕ → List Call → List Call → PassKnown R W E
  stepped_known p m n count seen mine = record p { pass = record p.pass { machine = pass_fed kit by m n; seen = count }; seen = seen; mine = mine }

  pub done_after : (l : Sizes) (p : PassKnown R W E) (m : PassMachine R W E) (n count : ℕ) (seen mine : List Call) (command : Command) (end : MachineEnd) → IsLayout l → IsPass l (let view = p.pass.view in view.pass)
      → ((x : NewMachine) → m ≡ machine.New x → (let pass = p.pass in pass.made) < 262144) → CommandFits command → IsAt kit l p.pass command m
      → ((k next : Known) → known_of kit m ≡ Some k → known_of kit (pass_fed kit by m n) ≡ Some next → CallKept k next)
      → HasSeen seen (change_by kit by m (let view = p.pass.view in view.pass) n) → Outcome kit (pass_fed kit by m n) end
      → IsDone kit (stepped_known p m n count seen mine) command (pass_fed kit by m n)
  done_after l p (machine.New x) n count seen mine (commands.New dst len) end layout is few fits at kept has outcome = new_by outcome
    where
      new_by : Outcome kit (machine.New (makes.fed_of x n)) end → IsDone kit (stepped_known p (machine.New x) n count seen mine) (commands.New dst len) (machine.New (makes.fed_of x n))
      new_by (Makes e same end_is) =
          let fed : makes.fed_of x n ≡ make.Ended e = cc in
          subst (λ (y : NewMachine). IsDone kit (stepped_known p (machine.New x) n count seen mine) (commands.New dst len) (machine.New y)) (sym fed)
          (news_done l p.pass.view.pass p.pass.made len p.pass.room seen x n e layout is (few x refl) fits.1 at fed has)
      new_by (Polls e same end_is) = absurd cc
      new_by (Reads y e said same ends_so says end_is) = absurd cc
      new_by (Writes y e said same ends_so says end_is) = absurd cc
      new_by (Exchanges y e said same ends_so says end_is) = absurd cc
      new_by (Retires same end_is) = absurd cc
  done_after l p (machine.Read x) n count seen mine (commands.Get dst obj field) end layout is few fits at kept has outcome = access_done p.pass.view.pass (kit.reads x) (kit.reads (by.read_fed x n)) _ (kept (kit.reads x) (kit.reads (by.read_fed x n)) refl refl) at.1
  done_after l p (machine.Write x) n count seen mine (commands.Put obj field what) end layout is few fits at kept has outcome = access_done p.pass.view.pass (kit.writes x) (kit.writes (by.write_fed x n)) _ (kept (kit.writes x) (kit.writes (by.write_fed x n)) refl refl) at.1
  done_after l p (machine.Exchange x) n count seen mine (commands.Cas dst obj field expected value) end layout is few fits at kept has outcome = access_done p.pass.view.pass (kit.exchanges x) (kit.exchanges (by.exchange_fed x n)) _ (kept (kit.exchanges x) (kit.exchanges (by.exchange_fed x n)) refl refl) at.1
  done_after l p (machine.Poll x) n count seen mine command end layout is few fits at kept has outcome = poll_done (stepped_known p (machine.Poll x) n count seen mine) command _
  done_after l p m n count seen mine (commands.New dst len) end layout is few fits at kept has outcome = absurd at
  done_after l p m n count seen mine (commands.Get dst obj field) end layout is few fits at kept has outcome = absurd at
  done_after l p m n count seen mine (commands.Put obj field what) end layout is few fits at kept has outcome = absurd at
  done_after l p m n count seen mine (commands.Cas dst obj field expected value) end layout is few fits at kept has outcome = absurd at
  done_after l p m n count seen mine (commands.Copy dst src) end layout is few fits at kept has outcome = absurd at
  done_after l p m n count seen mine (commands.Drop dst) end layout is few fits at kept has outcome = absurd at
  done_after l p m n count seen mine commands.Poll end layout is few fits at kept has outcome = absurd at
