-- What is kept by bytes: what a look-up finds, what a call leaves, and that all of it stays open.
use Rattle.std.proofs.Common.{◌≡◌, ℕ, List, Contains, Some, refl, sym, ap, subst, ◌∙◌, inl, inr, nat_eq, Global}
use Rattle.std.specs.Prelude.{IfSome, OnOk, OnErr, Option, None, Result, Ok, Err}
use Rattle.std.specs.declared.sync.Arc.{Arc}
use Rattle.std.specs.Arc.{arc_value}
use Rattle.std.specs.Map.{lookup}
use Rattle.lru.specs.LruCache.{LruCache, lru_cache, put_entries}
use Rattle.lru.proofs.CallerLemmas.{Contains-lookup, Contains-put_entries}
use Rattle.stmt_codec.specs.declared.cert.Cert.{Cert}
use Rattle.stmt_codec.specs.Certificates.{certificate}
use Rattle.sealed_cert.specs.Seals.{Opens}
use Rattle.relay_core.specs.declared.opened.KeptCert.{KeptCert}
use Rattle.relay_core.specs.Opened.{Kept, AreOpen, HoldsOpen, IsKeptBy, KeepsAtMost}

-- a look-up by bytes finds one that is kept by these very bytes
pub found : (kept : List Kept) (number : ℕ) (text : List ℕ) (value : KeptCert) → lookup (nat_eq number) kept ≡ Some value → value.bytes.items ≡ text → IsKeptBy kept text (arc_value value.cert)
found kept number text value is same =
    let there = Contains-lookup (nat_eq number) kept value is in
    ((there.0, value), there.1, same, refl)

-- one more is kept by its bytes, in the place of one that was
pub put : (c : LruCache ℕ KeptCert) (number : ℕ) (kept : KeptCert) (text : List ℕ) (value : Cert) → kept.bytes.items ≡ text → arc_value kept.cert ≡ value →
    KeepsAtMost c.entries (put_entries nat_eq c number kept) text value
put c number kept text value is same = λ e there.
    elim (Contains-put_entries nat_eq c number kept e there) [
      | inl was ↦ inl was
      | inr p ↦ inr (ap (λ (v : KeptCert). v.bytes.items) p.0 ∙ is, ap (λ (v : KeptCert). arc_value v.cert) p.0 ∙ same)
    ]

-- the same of a call that puts it, which changes nothing where it fails
pub after_put : {A E : Type 0} (r : Result A E) (c after : LruCache ℕ KeptCert) (number : ℕ) (kept : KeptCert) (text : List ℕ) (value : Cert) →
    OnOk r (after ≡ lru_cache (put_entries nat_eq c number kept) c.cap) → OnErr r (after ≡ c) → kept.bytes.items ≡ text → arc_value kept.cert ≡ value → KeepsAtMost c.entries after.entries text value
after_put (Ok a) c after number kept text value went stayed is same = subst (λ (x : LruCache ℕ KeptCert). KeepsAtMost c.entries x.entries text value) (sym went) (put c number kept text value is same)
after_put (Err x) c after number kept text value went stayed is same = λ e there. inl (subst (λ (x : LruCache ℕ KeptCert). Contains x.entries e) stayed there)

opens_by : (key : List ℕ) (kept : List Kept) (text : List ℕ) (value : Cert) → AreOpen key kept → IsKeptBy kept text value → Opens key text (certificate value.body)
opens_by key kept text value all (e, there, same, is) =
    subst (λ (v : Cert). Opens key text (certificate v.body)) is (subst (λ (l : List ℕ). Opens key l (certificate (arc_value e.1.cert).body)) same (all e there))

-- the certificate that is given, if there is one, is what the bytes open to
abbrev pub OpensIfSome : (key text : List ℕ) → Option (Arc Cert Global) → Type 0
OpensIfSome key text given = IfSome given (λ c. Opens key text (certificate (arc_value c).body))

pub opens_if_some : (key : List ℕ) (held : Option (LruCache ℕ KeptCert)) (certs : LruCache ℕ KeptCert) (text : List ℕ) (given : Option (Arc Cert Global)) →
    HoldsOpen key held → held ≡ Some certs → IfSome given (λ c. IsKeptBy certs.entries text (arc_value c)) → OpensIfSome key text given
opens_if_some key held certs text None all is kept = tt
opens_if_some key held certs text (Some cert) all is kept = opens_by key certs.entries text (arc_value cert) (subst (HoldsOpen key) is all) kept

pub stays_open : (key : List ℕ) (before after : List Kept) → AreOpen key before → ((e : Kept) → Contains after e → Contains before e) → AreOpen key after
stays_open key before after all no_more = λ e there. all e (no_more e there)

pub one_more_open : (key : List ℕ) (before after : List Kept) (text : List ℕ) (value : Cert) → AreOpen key before → KeepsAtMost before after text value → Opens key text (certificate value.body) → AreOpen key after
one_more_open key before after text value all at_most opens = λ e there. elim (at_most e there) [
  | inl was ↦ all e was
  | inr (same, is) ↦ subst (λ (l : List ℕ). Opens key l (certificate (arc_value e.1.cert).body)) (sym same) (subst (λ (v : Cert). Opens key text (certificate v.body)) (sym is) opens)
]
