use Rattle.handshakes.specs.PhaseWords.{phase_word_at}
use Rattle.barriers.specs.Exchanges.{errand_of}
use Rattle.stopless_copy.specs.ExchangeCauses.{exchange_cause_of}
use Rattle.stopless_copy.proofs.exchange.StoplessExchange.new.Goals as goal

pub returns-clause-cause : goal.returns-clause-cause
returns-clause-cause c = rw (c.new.ensures, c.phase.ensures) (exchange_cause_of (errand_of c.args.birth c.args.at c.args.field c.args.expected c.args.word) (phase_word_at c.args.view.acked).phase)
