use Rattle.taos_saturate.proofs.Growing.{grown_by}
use Rattle.taos_saturate.proofs.saturation.Saturation.add.Goals as goal

pub returns-clause-grown : goal.returns-clause-grown
returns-clause-grown c =
    let e = c.add.ensures in
    (grown_by c.args.self.now c.add.new.self c.args.line c.requires.ready c.requires.sound c.requires.new e.found e.width e.statements e.lines e.room e.lines_kept e.numbers_kept).0
