use Rattle.std.proofs.Common.{arith}
use Rattle.object_headers.specs.Headers.{word_of_header}
use Rattle.object_headers.specs.HeaderLaws.{header_of-word_of_header}
use Rattle.object_headers.proofs.header.Header.pack.Goals as goal

pub returns-clause-word : goal.returns-clause-word
unfolding word_of_header
returns-clause-word c = omega arith

pub returns-clause-unpacks : goal.returns-clause-unpacks
returns-clause-unpacks c =
    rw (returns-clause-word c) (header_of-word_of_header c.args.self.now c.requires)
