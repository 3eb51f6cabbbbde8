-- The certificates of a list of handles, and the entries of an access list, by place.
use Rattle.std.proofs.Common.{◌≡◌, ℕ, ◌<◌, List, length, get_or, map, Some, slice_get, sym, ap, ◌∙◌, Global}
use Rattle.std.proofs.lemmas.List.{length-map}
use Rattle.std.proofs.lemmas.Option.{slice_get-get_or, slice_get-map}
use Rattle.std.specs.Option.{option_map}
use Rattle.std.specs.declared.sync.Arc.{Arc}
use Rattle.stmt_codec.specs.declared.cert.Cert.{Cert}
use Rattle.stmt_codec.specs.Certificates.{certificate}
use Rattle.stmt_codec.specs.View.{certificates}
use Rattle.prin_term.specs.declared.term.Entry.{Entry}
use Rattle.prin_term.specs.View.{grant}

pub certificate_count : (certs : List (Arc Cert Global)) → length (certificates certs) ≡ length certs
certificate_count certs = length-map certs (λ (c : Arc Cert Global). certificate c.value.body)

pub certificate_at : (certs : List (Arc Cert Global)) (i : ℕ) (a : Arc Cert Global) → a ≡ get_or certs i a → i < length certs → slice_get (certificates certs) i ≡ Some (certificate a.value.body)
certificate_at certs i a e lt =
    slice_get-map (λ (c : Arc Cert Global). certificate c.value.body) certs i ∙
    ap (option_map (λ (c : Arc Cert Global). certificate c.value.body)) (slice_get-get_or certs i a lt ∙ ap Some (sym e))

pub entry_in : (list : List Entry) (i : ℕ) (d : Entry) → i < length list → slice_get (map grant list) i ≡ Some (grant (get_or list i d))
entry_in list i d lt = slice_get-map grant list i ∙ ap (option_map grant) (slice_get-get_or list i d lt)

pub entry_at : (list : List Entry) (i : ℕ) (e : Entry) → e ≡ get_or list i e → i < length list → slice_get (map grant list) i ≡ Some (grant e)
entry_at list i e is lt = entry_in list i e lt ∙ ap (λ (x : Entry). Some (grant x)) (sym is)
