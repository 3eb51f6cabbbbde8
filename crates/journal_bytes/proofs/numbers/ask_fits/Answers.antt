use Rattle.journal_bytes.proofs.Fitting.{certs_fit}
use Rattle.journal_bytes.proofs.numbers.ask_fits.Goals as goal

pub returns : goal.returns
returns c =
    let n = c.asked_fits.ensures in
    (record { channel = n.channel; seq = n.seq; reading = n.reading }, certs_fit c.args.ask.now.presented.items)
