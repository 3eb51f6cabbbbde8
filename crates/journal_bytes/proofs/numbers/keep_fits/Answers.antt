use Rattle.std.proofs.Common.{refl, subst}
use Rattle.std.specs.Arc.{arc_value}
use Rattle.journal_bytes.specs.Numbers.{PartsNumbers}
use Rattle.journal_bytes.proofs.Fitting.{certs_fit}
use Rattle.journal_bytes.proofs.numbers.keep_fits.Goals as goal

pub returns : goal.returns
returns c =
    let proof = arc_value c.args.proof.now.proof in
    let numbers : PartsNumbers proof = subst PartsNumbers (cc c.deref.ensures) c.proof_fits.ensures in
    (c.place_fits.ensures.place, c.place_fits.ensures.entry, record { parts = proof; numbers = numbers; meaning = refl }, certs_fit c.args.proof.now.cites.items)
