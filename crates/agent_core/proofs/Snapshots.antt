-- Handles that are gathered, one after another.
use Rattle.std.proofs.Common.{◌≡◌, ℕ, ◌+◌, ◌<◌, Bool, true, false, cond, filter, List, [], ◌∷◌, ◌++◌, length, get_or, take, Option, Some, sym, ap, ap₂, ◌∙◌, append_assoc, Global}
use Rattle.std.specs.List.{filter_map, cons_option}
use Rattle.std.specs.declared.sync.Arc.{Arc}
use Rattle.std.proofs.lemmas.List.{append-nil, take_more, map_push}
use Rattle.std.proofs.lemmas.List.Elements.{filter-append, filter_map-append}
use Rattle.stmt_codec.specs.declared.cert.Cert.{Cert}
use Rattle.stmt_codec.specs.Certificates.{Certificate, certificate}
use Rattle.stmt_codec.specs.View.{certificates}

-- one more handle is one more certificate
handle_more : (first out after : List (Arc Cert Global)) (handle : Arc Cert Global) (c : Certificate) (before : List Certificate) → certificate handle.value.body ≡ c →
    certificates out ≡ certificates first ++ before → after ≡ out ++ handle ∷ [] → certificates after ≡ certificates first ++ (before ++ c ∷ [])
handle_more first out after handle c before is was added =
    ap certificates added ∙ map_push (λ (h : Arc Cert Global). certificate h.value.body) out handle ∙
    ap₂ (λ (cs : List Certificate) (x : Certificate). cs ++ x ∷ []) was is ∙
    append_assoc (certificates first) before (c ∷ [])

module _ {X : Type 0} (f : X → Option Certificate) (xs : List X) (i : ℕ) (d : X) (c : Certificate) (lt : i < length xs) (at : f (get_or xs i d) ≡ Some c) where
  named_more : filter_map f (take (i + 1) xs) ≡ filter_map f (take i xs) ++ c ∷ []
  named_more =
      ap (filter_map f) (take_more xs i d lt) ∙ filter_map-append f (take i xs) (get_or xs i d ∷ []) ∙
      ap (λ (o : Option Certificate). filter_map f (take i xs) ++ cons_option o []) at

  pub gathered_more : (first out after : List (Arc Cert Global)) (handle : Arc Cert Global) → certificate handle.value.body ≡ c →
      certificates out ≡ certificates first ++ filter_map f (take i xs) → after ≡ out ++ handle ∷ [] → certificates after ≡ certificates first ++ filter_map f (take (i + 1) xs)
  gathered_more first out after handle is before added =
      handle_more first out after handle c (filter_map f (take i xs)) is before added ∙ ap (λ (cs : List Certificate). certificates first ++ cs) (sym named_more)

  -- of those that pass
  module _ (p : Certificate → Bool) where
    passed_more : (b : Bool) → p c ≡ b → filter p (filter_map f (take (i + 1) xs)) ≡ filter p (filter_map f (take i xs)) ++ cond b (c ∷ []) []
    passed_more b e =
        ap (filter p) named_more ∙ filter-append p (filter_map f (take i xs)) (c ∷ []) ∙ ap (λ t. filter p (filter_map f (take i xs)) ++ cond t (c ∷ []) []) e

    pub gathered_passing : (first out after : List (Arc Cert Global)) (handle : Arc Cert Global) → certificate handle.value.body ≡ c → p c ≡ true →
        certificates out ≡ certificates first ++ filter p (filter_map f (take i xs)) → after ≡ out ++ handle ∷ [] → certificates after ≡ certificates first ++ filter p (filter_map f (take (i + 1) xs))
    gathered_passing first out after handle is passes before added =
        handle_more first out after handle c (filter p (filter_map f (take i xs))) is before added ∙ ap (λ (cs : List Certificate). certificates first ++ cs) (sym (passed_more true passes))

    pub gathered_not : p c ≡ false → filter p (filter_map f (take (i + 1) xs)) ≡ filter p (filter_map f (take i xs))
    gathered_not e = passed_more false e ∙ append-nil (filter p (filter_map f (take i xs)))
