-- The certificate that a first link names is there.
use Rattle.std.proofs.Common.{ℕ, List}
use Rattle.std.proofs.lemmas.Option.{slice_get_within}
use Rattle.prin_term.specs.declared.term.Anchor.{Anchor}
use Rattle.prin_term.specs.Principal.{Principal}
use Rattle.prin_term.specs.View.{Grant}
use Rattle.stmt_codec.specs.Certificates.{Certificate}
use Rattle.denial_link.specs.declared.link.Link.{Link}
use Rattle.denial_link.specs.Links.{IsFirstLink, no_entry, expired, early, missing}
use Rattle.agent_core.specs.Settling.{IsPlaceIn}

pub link_within : (anchors : List Anchor) (certs : List Certificate) (moment : ℕ) (subject : Principal) (list : List Grant) (right : ℕ) (link : Link) →
    IsFirstLink anchors certs moment subject list right link → IsPlaceIn certs link
link_within anchors certs moment subject list right link (no_entry none) = tt
link_within anchors certs moment subject list right link (expired {k} {c} g first needed out) = slice_get_within certs c out.0 out.1
link_within anchors certs moment subject list right link (early {k} {c} g first needed out) = slice_get_within certs c out.0 out.1
link_within anchors certs moment subject list right link (missing {k} {n} g first none lacks) = tt
