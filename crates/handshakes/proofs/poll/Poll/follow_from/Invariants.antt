use Rattle.std.proofs.Common.{◌≡◌, drop}
use Rattle.handshakes.specs.Polls.{follow_from}
use Rattle.handshakes.proofs.poll.Poll.follow_from.Given as goal

abbrev pub invariant-loop-register : goal.invariant-loop-register
invariant-loop-register l =
    follow_from l.self l.word l.register (drop l.register l.self.registers) ≡ follow_from l.self l.word l.first (drop l.first l.self.registers)
