use Rattle.std.proofs.Common.{◌≡◌, ◌∙◌, List, ℕ, Some, ap, refl, sym, subst}
use Rattle.std.specs.Prelude.{bytes_eq}
use Rattle.std.specs.Map.{lookup}
use Rattle.std.proofs.lemmas.Cmp.{nat_list_eq_equiv}
use Rattle.std.proofs.lemmas.Map.Entries.{lookup_from_place}
use Rattle.prin_term.specs.Principal.{Principal}
use Rattle.prin_term.specs.View.{principal}
use Rattle.lemma_memo.specs.Memory.{key_of}
use Rattle.lemma_memo.proofs.Lists.{placed}
use Rattle.lemma_memo.proofs.kept.search.Goals as goal

-- one of these terms would be kept by the key
pub returns-in_err-places-clause-none : goal.returns-in_err-places-clause-none
returns-in_err-places-clause-none c = λ none e places has for_these z.
    let entries = c.args.lemmas.now.entries in
    let (i, at) = placed entries e has in
    let found = lookup_from_place nat_list_eq_equiv entries i e.0 e.1 c.len.ensures.valid.0 at in
    let key : e.0 ≡ c.key_of-key.result =
    c.requires e has
    ∙ (ap (λ (p : Principal). key_of p (principal e.1.right)) for_these.0
    ∙ (ap (λ (p : Principal). key_of (principal c.args.left.now) p) for_these.1 ∙ sym c.key_of-key.ensures)) in
    c.in_err-places.ensures.none refl places (e.1, subst (λ (k : List ℕ). lookup (bytes_eq k) entries ≡ Some e.1) key found, for_these, z)
