-- The text, and its tag behind it.
use Rattle.std.proofs.Common.{◌++◌, List, ℕ, ap, ◌∙◌}
use Rattle.keyed_seal.specs.Tag.{tag_of}
use Rattle.cred_pull.proofs.pull_reply.write_pull_failed_with.Goals as goal

pub returns : goal.returns
returns c =
    let text = c.text_of-text.result in
    let first = rw c.unwrap.ensures at c.try_extend_from_slice.ensures.ok in
    let second = rw c.unwrap-2.ensures at c.try_extend_from_slice-2.ensures.ok in
    second ∙ ap (λ (l : List ℕ). l ++ c.tag-tag.result) (first ∙ ap (λ (l : List ℕ). l ++ text) c.clear.ensures)
    ∙ ap (λ (t : List ℕ). text ++ t) c.tag-tag.ensures ∙ ap (λ (t : List ℕ). t ++ tag_of c.args.sealer.now t) c.text_of-text.ensures
