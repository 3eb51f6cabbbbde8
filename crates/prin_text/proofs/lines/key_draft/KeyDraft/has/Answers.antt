use Rattle.std.proofs.Common.{ap, sym, ◌∙◌}
use Rattle.std.specs.Option.{is_some}
use Rattle.keyed_seal.specs.Keys.{Keys, key_of}
use Rattle.prin_text.proofs.Gathered.{key_of-get}
use Rattle.prin_text.proofs.lines.key_draft.KeyDraft.has.Goals as goal

pub returns : goal.returns
returns c =
    c.contains_key.ensures ∙ ap is_some (sym (key_of-get c.self.inside.keys.entries c.args.number))
    ∙ ap (λ (k : Keys). is_some (key_of k.entries c.args.number)) c.self.view_is
