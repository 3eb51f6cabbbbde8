use Rattle.stmt_codec.proofs.Prefixes.{body_cut}
use Rattle.stmt_codec.proofs.laws.short_bodies_are_refused.Goals as goal

pub returns : goal.returns
returns c = λ bytes more at d le fits e some. body_cut bytes more at d le fits.numbers fits.limits e some
