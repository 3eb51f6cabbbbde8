-- Both are true exactly where the bytes are the tag.
use Rattle.std.proofs.Common.{ℕ, List, take, ap, ◌∙◌}
use Rattle.std.specs.Str.{bytes_eq}
use Rattle.std.proofs.lemmas.Bool.Decides.{same_from_decides}
use Rattle.std.proofs.lemmas.List.{take_rest}
use Rattle.std.proofs.lemmas.Slice.Eq.{bytes_eq-Decides}
use Rattle.keyed_seal.specs.Tag.{tag_of}
use Rattle.sealed_cert.proofs.opening.is_tagged.Goals as goal

pub returns : goal.returns
returns c =
    let bytes = c.args.bytes.now in
    let tag : List ℕ = tag_of c.args.sealer.now (take c.args.end bytes) in
    same_from_decides _ _ c.tag_is.ensures (bytes_eq-Decides _ _) ∙ ap (λ (l : List ℕ). bytes_eq l tag) (take_rest bytes c.args.end)
