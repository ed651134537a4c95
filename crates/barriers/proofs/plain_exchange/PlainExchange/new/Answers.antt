use Rattle.barriers.specs.PlainExchangeCauses.{cause_of}
use Rattle.barriers.proofs.plain_exchange.PlainExchange.new.Goals as goal

pub returns-clause-cause : goal.returns-clause-cause
returns-clause-cause c = cause_of (record { place = c.args.place; expected = c.args.expected; word = c.args.word })
