-- What is found is kept by these very bytes, and only its place changes.
use Rattle.std.proofs.Common.{ℕ, sym, subst, ◌∙◌, Contains, nat_eq, rules}
use Rattle.std.specs.Cmp.Lexicographic.{same_text}
use Rattle.lru.specs.LruCache.{LruCache}
use Rattle.lru.proofs.CallerLemmas.{Contains-promoted}
use Rattle.relay_core.specs.declared.opened.KeptCert.{KeptCert}
use Rattle.relay_core.proofs.Keeping.{found}
use Rattle.relay_core.proofs.opened.recall.Goals as goal

pub returns-in-Ok-clause-kept : goal.returns-in-Ok-clause-kept
returns-in-Ok-clause-kept c =
    let k = found c.args.certs.now.entries c.number_of-number.result c.args.text.now c.in_ok-kept.kept.now (sym c.in_ok-kept.ensures) (search (rules, same_text, c.if-ne, c.ne.ensures, c.as_slice.ensures)) in
    (k.0, k.1, k.2, k.3 ∙ sym c.in-Ok.ensures)

pub returns-in-Ok-clause-no_more : goal.returns-in-Ok-clause-no_more
returns-in-Ok-clause-no_more c = λ e there.
    Contains-promoted (nat_eq c.number_of-number.result) c.args.certs.now.entries e
    (subst (λ (x : LruCache ℕ KeptCert). Contains x.entries e) c.promote.ensures.entries there)
