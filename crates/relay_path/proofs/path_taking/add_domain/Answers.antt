use Rattle.std.proofs.Common.{◌∷◌, ◌++◌, [], List, sym, subst, ◌∙◌, arith}
use Rattle.std.proofs.lemmas.Slice.Zip.{all_zipped_more}
use Rattle.relay_path.specs.declared.domain_draft.DomainDraft.{DomainDraft}
use Rattle.relay_path.specs.PathFile.{new_domain}
use Rattle.relay_path.specs.PathView.{AreDomainDrafts, IsDomainDraft}
use Rattle.relay_path.proofs.Taken.{few_enough, too_many}
use Rattle.relay_path.proofs.path_taking.add_domain.Goals as goal

pub returns-then-len-ge-MAX_DOMAINS : goal.returns-then-len-ge-MAX_DOMAINS
returns-then-len-ge-MAX_DOMAINS c = record {
  takes = λ above all.
      let seen = subst (λ (l : List DomainDraft). AreDomainDrafts l above) (sym c.deref.ensures.value) all in
      let new = sym (c.has_domain.ensures above seen) ∙ c.if-has_domain.false in
      too_many c.deref.result.now above (above ++ new_domain c.args.number ∷ []) c.args.number seen new (omega (arith, c.if-len-ge-MAX_DOMAINS.true, c.len.ensures, c.deref.ensures.len));
}

pub returns : goal.returns
returns c = record {
  takes = λ above all.
      let seen = subst (λ (l : List DomainDraft). AreDomainDrafts l above) (sym c.deref.ensures.value) all in
      let new = sym (c.has_domain.ensures above seen) ∙ c.if-has_domain.false in
      let more = above ++ new_domain c.args.number ∷ [] in (
        more,
        few_enough c.deref.result.now above more c.args.number seen new (omega (arith, c.if-len-ge-MAX_DOMAINS.false, c.len.ensures, c.deref.ensures.len)),
        subst (λ (l : List DomainDraft). AreDomainDrafts l more) (sym c.in_ok-push.ensures.items) (all_zipped_more IsDomainDraft c.args.drafts.now.items above c.new_draft.result (new_domain c.args.number) all c.new_draft.ensures),
      );
}
