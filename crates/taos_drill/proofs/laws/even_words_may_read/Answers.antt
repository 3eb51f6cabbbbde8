use Rattle.taos_drill.proofs.Readable.{channel_speaks, even_object, odd_object}
use Rattle.taos_drill.proofs.laws.even_words_may_read.Goals as goal

pub returns-clause-speaks : goal.returns-clause-speaks
returns-clause-speaks c = λ channel. channel_speaks channel

pub returns-clause-even : goal.returns-clause-even
returns-clause-even c = λ lanes channel word few first last even. even_object lanes channel word few first last even

pub returns-clause-odd : goal.returns-clause-odd
returns-clause-odd c = λ lanes channel word few first last odd. odd_object lanes channel word few first last odd
