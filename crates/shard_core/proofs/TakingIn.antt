-- Handles to certificates that are kept.
use Rattle.std.proofs.Common.{◌≡◌, ℕ, ◌+◌, ◌<◌, List, [], ◌∷◌, ◌++◌, length, get_or, take, Some, slice_get, sym, ap, ap₂, ◌∙◌, Global}
use Rattle.std.specs.declared.sync.Arc.{Arc}
use Rattle.std.specs.declared.vec.Vec.{Vec}
use Rattle.std.proofs.lemmas.List.{map_more, map_push}
use Rattle.std.proofs.lemmas.Option.{same_Some}
use Rattle.stmt_codec.specs.declared.cert.Cert.{Cert}
use Rattle.stmt_codec.specs.Certificates.{Certificate, certificate}
use Rattle.stmt_codec.specs.View.{certificates}
use Rattle.agent_core.specs.declared.event.Ask.{Ask as AskValue}
use Rattle.agent_core.specs.Views.{ask_of}
use Rattle.denial_link.proofs.Places.{certificate_at}

abbrev said : Arc Cert Global → Certificate
said handle = certificate handle.value.body

-- ---- one more handle

module _ (certs later : List (Arc Cert Global)) (handle : Arc Cert Global) (added : later ≡ certs ++ handle ∷ []) where
  pub certificates_more : certificates later ≡ certificates certs ++ said handle ∷ []
  certificates_more = ap certificates added ∙ map_push said certs handle

  -- it stands for the next of some others
  pub same_more : (others : List (Arc Cert Global)) (i : ℕ) (next : Arc Cert Global) → i < length others → next ≡ get_or others i next →
      certificates certs ≡ certificates (take i others) → said handle ≡ said next → certificates later ≡ certificates (take (i + 1) others)
  same_more others i next lt here so_far same =
      certificates_more ∙ ap₂ (λ (cs : List Certificate) (c : Certificate). cs ++ c ∷ []) so_far (same ∙ ap said here) ∙ sym (map_more said others i next lt)

-- ---- what stands at a place

pub same_at : (certs : List (Arc Cert Global)) (i : ℕ) (handle : Arc Cert Global) (c : Certificate) → handle ≡ get_or certs i handle → i < length certs →
    slice_get (certificates certs) i ≡ Some c → said handle ≡ c
same_at certs i handle c is lt at = same_Some (said handle) c (sym (certificate_at certs i handle is lt) ∙ at)

-- ---- an Ask with other handles to the same certificates

pub ask_with : (a b t : AskValue) (presented : Vec (Arc Cert Global) Global) → t ≡ record a { presented = presented } → a ≡ b →
    certificates presented.items ≡ certificates b.presented.items → ask_of t ≡ ask_of b
ask_with a b t presented is own same =
    ap ask_of is ∙
    ap (λ (cs : List Certificate). record (ask_of a) { presented = cs }) (same ∙ ap (λ (x : AskValue). certificates x.presented.items) (sym own)) ∙
    ap ask_of own
