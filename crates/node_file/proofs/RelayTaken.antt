-- What a line of a relay file adds, in what the program holds and in what it stands for.
use Rattle.std.proofs.Common.{◌≡◌, ℕ, List, Result, refl, sym, subst, ◌∙◌}
use Rattle.keyed_seal.specs.Keys.{Entries, Keys}
use Rattle.prin_text.specs.Labels.{Labels, Rows}
use Rattle.node_file.specs.declared.limits.TheConstants.{MAX_ISSUERS, MAX_NODES}
use Rattle.prin_text.specs.declared.lines.line_fault.LineFault.{LineFault}
use Rattle.prin_text.specs.FileLines.{keys_with, texts_with}
use Rattle.prin_text.specs.Held.{HoldsKeys, HoldsRows}
use Rattle.prin_text.specs.LineView.{TakesLine}
use Rattle.prin_text.specs.declared.limits.TheConstants.{MAX_NAMES, MAX_ROLES}
use Rattle.node_file.specs.declared.relay_kind.RelayKind.{RelayKind}
use Rattle.node_file.specs.declared.relay_kind.RelayKind.TheVariants as kinds
use Rattle.node_file.specs.declared.relay_reading.RelayDraft.{RelayDraft}
use Rattle.node_file.specs.RelayFile.{RelayFile, issuers_in, names_in, nodes_in, relay_adds, roles_in}
use Rattle.node_file.specs.RelayView.{IsRelayDraft}
use Rattle.node_file.proofs.KindTaken.{added}

-- a line of a kind is taken
abbrev pub Takes : RelayDraft → Result Unit LineFault → RelayFile → RelayKind → List ℕ → Type 0
Takes new r above kind rest = TakesLine IsRelayDraft r new (relay_adds above kind rest)

-- ---- the whole, by what was done for the part that the line speaks of

module _ (draft : RelayDraft) {r : RelayFile} (s : IsRelayDraft draft r) where
  pub name_taken : {kind : RelayKind} → kind ≡ kinds.Name → (rest : List ℕ) (result : Result Unit LineFault) (labels : Labels) →
      ((rows : Rows) → HoldsRows draft.names.names rows → TakesLine HoldsRows result labels.names (texts_with MAX_NAMES rows rest)) → labels.roles ≡ draft.names.roles →
      Takes (record draft { names = labels }) result r kind rest
  name_taken is rest result labels takes roles =
      added IsRelayDraft relay_adds HoldsRows (names_in r) r is rest result labels.names (record draft { names = labels }) (texts_with MAX_NAMES r.names rest) refl
      (takes r.names s.names) (λ rows held. record {
        names = held;
        roles = subst (λ (l : Rows). HoldsRows l r.roles) (sym roles) s.roles;
        issuers = s.issuers;
        nodes = s.nodes;
        issuers_room = s.issuers_room;
        nodes_room = s.nodes_room;
      })

  pub role_taken : {kind : RelayKind} → kind ≡ kinds.Role → (rest : List ℕ) (result : Result Unit LineFault) (labels : Labels) →
      ((rows : Rows) → HoldsRows draft.names.roles rows → TakesLine HoldsRows result labels.roles (texts_with MAX_ROLES rows rest)) → labels.names ≡ draft.names.names →
      Takes (record draft { names = labels }) result r kind rest
  role_taken is rest result labels takes names =
      added IsRelayDraft relay_adds HoldsRows (roles_in r) r is rest result labels.roles (record draft { names = labels }) (texts_with MAX_ROLES r.roles rest) refl
      (takes r.roles s.roles) (λ rows held. record {
        names = subst (λ (l : Rows). HoldsRows l r.names) (sym names) s.names;
        roles = held;
        issuers = s.issuers;
        nodes = s.nodes;
        issuers_room = s.issuers_room;
        nodes_room = s.nodes_room;
      })

  pub issuer_taken : {kind : RelayKind} → kind ≡ kinds.Issuer → (rest : List ℕ) (result : Result Unit LineFault) (keys : Keys) →
      ((entries : Entries) → HoldsKeys draft.issuers entries → TakesLine HoldsKeys result keys (keys_with draft.issuers.room entries rest)) → keys.room ≡ draft.issuers.room →
      Takes (record draft { issuers = keys }) result r kind rest
  issuer_taken is rest result keys takes room =
      added IsRelayDraft relay_adds HoldsKeys (issuers_in r) r is rest result keys (record draft { issuers = keys }) (keys_with MAX_ISSUERS r.issuers rest) refl
      (subst (λ (most : ℕ). TakesLine HoldsKeys result keys (keys_with most r.issuers rest)) s.issuers_room (takes r.issuers s.issuers))
      (λ entries held. record { issuers = held; nodes = s.nodes; issuers_room = room ∙ s.issuers_room; nodes_room = s.nodes_room; names = s.names; roles = s.roles })

  pub node_taken : {kind : RelayKind} → kind ≡ kinds.Node → (rest : List ℕ) (result : Result Unit LineFault) (keys : Keys) →
      ((entries : Entries) → HoldsKeys draft.nodes entries → TakesLine HoldsKeys result keys (keys_with draft.nodes.room entries rest)) → keys.room ≡ draft.nodes.room →
      Takes (record draft { nodes = keys }) result r kind rest
  node_taken is rest result keys takes room =
      added IsRelayDraft relay_adds HoldsKeys (nodes_in r) r is rest result keys (record draft { nodes = keys }) (keys_with MAX_NODES r.nodes rest) refl
      (subst (λ (most : ℕ). TakesLine HoldsKeys result keys (keys_with most r.nodes rest)) s.nodes_room (takes r.nodes s.nodes))
      (λ entries held. record { issuers = s.issuers; nodes = held; issuers_room = s.issuers_room; nodes_room = room ∙ s.nodes_room; names = s.names; roles = s.roles })
