-- What a line adds, in the draft that the program holds and in what it stands for.
use Rattle.std.proofs.Common.{◌≡◌, ℕ, List, Result, Ok, Err, map, refl, sym, ap, subst, ◌∙◌}
use Rattle.std.specs.declared.alloc.Global.{Global}
use Rattle.std.specs.declared.sync.Arc.{Arc}
use Rattle.std.specs.declared.vec.Vec.{Vec}
use Rattle.prin_term.specs.declared.term.Anchor.{Anchor}
use Rattle.byte_fields.specs.Steps.{◌>>=◌, with_value}
use Rattle.keyed_seal.specs.Keys.{Entries, Keys}
use Rattle.object_core.specs.Objects.{ObjectPlan}
use Rattle.prin_text.specs.Labels.{Labels, Rows}
use Rattle.stmt_codec.specs.declared.cert.Cert.{Cert}
use Rattle.stmt_codec.specs.Certificates.{Certificate}
use Rattle.prin_text.specs.declared.lines.fault.FileCause.{FileCause}
use Rattle.prin_text.specs.declared.lines.line_fault.LineFault.{LineFault}
use Rattle.node_file.specs.declared.limits.TheConstants.{MAX_CHANNELS}
use Rattle.node_file.specs.declared.node_text.draft.Draft as code
use Rattle.node_file.specs.declared.node_text.kind.LineKind.{LineKind}
use Rattle.node_file.specs.declared.node_text.kind.LineKind.TheVariants as kinds
use Rattle.node_file.specs.declared.node_text.kind.Setting.{Setting}
use Rattle.prin_text.specs.declared.limits.TheConstants.{MAX_NAMES, MAX_ROLES}
use Rattle.node_file.specs.declared.node_text.settings.Settings.{Settings}
use Rattle.prin_text.specs.Fields.{numbered}
use Rattle.prin_text.specs.FileLines.{keys_with, texts_with}
use Rattle.prin_text.specs.Held.{HoldsKeys, HoldsRows}
use Rattle.prin_text.specs.LineView.{TakesLine}
use Rattle.node_file.specs.NodeLines.{anchor_said, anchors_and, anchors_with, commons_with, settings_with}
use Rattle.node_file.specs.NodeFile.{Draft, adds, anchors_in, channels_in, commons_in, names_in, objects_in, roles_in, settings_in}
use Rattle.node_file.specs.NodeView.{IsDraftOf}
use Rattle.node_file.specs.OpeningView.{common}
use Rattle.node_file.specs.Plans.{HoldsPlans}
use Rattle.node_file.proofs.KindTaken.{added}
use Rattle.node_file.proofs.SamePrincipals.{same_name}

after_numbered : (r : Result (ℕ × List ℕ) FileCause) (f g : ℕ × List ℕ → Result Anchor FileCause) → ((x : ℕ × List ℕ) → f x ≡ g x) → (r >>= f) ≡ (r >>= g)
after_numbered (Ok x) f g same = same x
after_numbered (Err e) f g same = refl

same_anchor_said : (table rows : Rows) (rest : List ℕ) → HoldsRows table rows → anchor_said table rest ≡ anchor_said rows rest
unfolding anchor_said
same_anchor_said table rows rest held =
    after_numbered (numbered rest) _ _ (λ x. ap (λ (r : Result ℕ FileCause). r >>= λ n. Ok (record { key = x.0; name = n })) (same_name table rows held x.1))

module _ (table rows : Rows) (held_anchors anchors : List Anchor) (rest : List ℕ) (r : Result Unit LineFault) (new : Vec Anchor Global) where
  anchors_said : HoldsRows table rows → held_anchors ≡ anchors → TakesLine (λ v l. v.items ≡ l) r new (anchors_with table held_anchors rest) → TakesLine (λ v l. v.items ≡ l) r new (anchors_with rows anchors rest)
  anchors_said held same takes =
      subst (λ (l : List Anchor). TakesLine (λ v l. v.items ≡ l) r new (anchors_with rows l rest)) same
      (subst (λ (s : Result Anchor FileCause). TakesLine (λ v l. v.items ≡ l) r new (s >>= λ a. anchors_and held_anchors a)) (same_anchor_said table rows rest held) takes)

module _ (old above : Settings) (held_commons commons : List Certificate) (rest : List ℕ) (r : Result Unit LineFault) (new : Vec (Arc Cert Global) Global) where
  commons_said : old ≡ above → held_commons ≡ commons → TakesLine (λ v l. map common v.items ≡ l) r new (commons_with old.node held_commons rest) → TakesLine (λ v l. map common v.items ≡ l) r new (commons_with above.node commons rest)
  commons_said settings same takes =
      subst (λ (l : List Certificate). TakesLine (λ v l. map common v.items ≡ l) r new (commons_with above.node l rest)) same
      (subst (λ (s : Settings). TakesLine (λ v l. map common v.items ≡ l) r new (commons_with s.node held_commons rest)) settings takes)

-- a line of a kind is taken
abbrev pub Takes : code.Draft → Result Unit LineFault → Draft → LineKind → List ℕ → Type 0
Takes new r above kind rest = TakesLine IsDraftOf r new (adds above kind rest)

-- ---- the whole, by what was done for the part that the line speaks of

module _ (draft : code.Draft) {d : Draft} (s : IsDraftOf draft d) where
  pub setting_taken : {kind : LineKind} {setting : Setting} → kind ≡ kinds.Setting setting → (rest : List ℕ) (r : Result Unit LineFault) (new : Settings) →
      TakesLine (λ t u. t ≡ u) r new (settings_with draft.settings setting rest) →
      Takes (record draft { settings = new }) r d kind rest
  setting_taken {setting = setting} is rest r new takes =
      added IsDraftOf adds (λ t u. t ≡ u) (settings_in d) d is rest r new (record draft { settings = new }) (settings_with d.settings setting rest) refl
      (subst (λ (t : Settings). TakesLine (λ t u. t ≡ u) r new (settings_with t setting rest)) s.settings takes)
      (λ t same. record { settings = same; names = s.names; roles = s.roles; channels = s.channels; channels_room = s.channels_room; anchors = s.anchors; commons = s.commons; objects = s.objects })

  pub name_taken : {kind : LineKind} → kind ≡ kinds.Name → (rest : List ℕ) (r : Result Unit LineFault) (labels : Labels) →
      ((rows : Rows) → HoldsRows draft.names.names rows → TakesLine HoldsRows r labels.names (texts_with MAX_NAMES rows rest)) →
      labels.roles ≡ draft.names.roles → Takes (record draft { names = labels }) r d kind rest
  name_taken is rest r labels takes roles =
      added IsDraftOf adds HoldsRows (names_in d) d is rest r labels.names (record draft { names = labels }) (texts_with MAX_NAMES d.labels.names rest) refl
      (takes d.labels.names s.names) (λ rows held. record {
        names = held;
        roles = subst (λ (l : Rows). HoldsRows l d.labels.roles) (sym roles) s.roles;
        settings = s.settings;
        channels = s.channels;
        channels_room = s.channels_room;
        anchors = s.anchors;
        commons = s.commons;
        objects = s.objects;
      })

  pub role_taken : {kind : LineKind} → kind ≡ kinds.Role → (rest : List ℕ) (r : Result Unit LineFault) (labels : Labels) →
      ((rows : Rows) → HoldsRows draft.names.roles rows → TakesLine HoldsRows r labels.roles (texts_with MAX_ROLES rows rest)) →
      labels.names ≡ draft.names.names → Takes (record draft { names = labels }) r d kind rest
  role_taken is rest r labels takes names =
      added IsDraftOf adds HoldsRows (roles_in d) d is rest r labels.roles (record draft { names = labels }) (texts_with MAX_ROLES d.labels.roles rest) refl
      (takes d.labels.roles s.roles) (λ rows held. record {
        names = subst (λ (l : Rows). HoldsRows l d.labels.names) (sym names) s.names;
        roles = held;
        settings = s.settings;
        channels = s.channels;
        channels_room = s.channels_room;
        anchors = s.anchors;
        commons = s.commons;
        objects = s.objects;
      })

  pub channel_taken : {kind : LineKind} → kind ≡ kinds.Channel → (rest : List ℕ) (r : Result Unit LineFault) (keys : Keys) →
      ((entries : Entries) → HoldsKeys draft.channels entries → TakesLine HoldsKeys r keys (keys_with draft.channels.room entries rest)) →
      keys.room ≡ draft.channels.room → Takes (record draft { channels = keys }) r d kind rest
  channel_taken is rest r keys takes room =
      added IsDraftOf adds HoldsKeys (channels_in d) d is rest r keys (record draft { channels = keys }) (keys_with MAX_CHANNELS d.channels rest) refl
      (subst (λ (most : ℕ). TakesLine HoldsKeys r keys (keys_with most d.channels rest)) s.channels_room (takes d.channels s.channels)) (λ entries held. record {
        settings = s.settings;
        names = s.names;
        roles = s.roles;
        channels = held;
        channels_room = room ∙ s.channels_room;
        anchors = s.anchors;
        commons = s.commons;
        objects = s.objects;
      })

  pub anchor_taken : {kind : LineKind} → kind ≡ kinds.Anchor → (rest : List ℕ) (r : Result Unit LineFault) (new : Vec Anchor Global) →
      TakesLine (λ v l. v.items ≡ l) r new (anchors_with draft.names.names draft.anchors.items rest) →
      Takes (record draft { anchors = new }) r d kind rest
  anchor_taken is rest r new takes =
      added IsDraftOf adds (λ v l. v.items ≡ l) (anchors_in d) d is rest r new (record draft { anchors = new }) (anchors_with d.labels.names d.anchors rest) refl
      (anchors_said draft.names.names d.labels.names draft.anchors.items d.anchors rest r new s.names s.anchors takes)
      (λ l held. record { settings = s.settings; names = s.names; roles = s.roles; channels = s.channels; channels_room = s.channels_room; anchors = held; commons = s.commons; objects = s.objects })

  pub common_taken : {kind : LineKind} → kind ≡ kinds.Common → (rest : List ℕ) (r : Result Unit LineFault) (new : Vec (Arc Cert Global) Global) →
      TakesLine (λ v l. map common v.items ≡ l) r new (commons_with draft.settings.node (map common draft.commons.items) rest) →
      Takes (record draft { commons = new }) r d kind rest
  common_taken is rest r new takes =
      added IsDraftOf adds (λ v l. map common v.items ≡ l) (commons_in d) d is rest r new (record draft { commons = new }) (commons_with d.settings.node d.commons rest) refl
      (commons_said draft.settings d.settings (map common draft.commons.items) d.commons rest r new s.settings s.commons takes)
      (λ l held. record { settings = s.settings; names = s.names; roles = s.roles; channels = s.channels; channels_room = s.channels_room; anchors = s.anchors; commons = held; objects = s.objects })

  pub objects_taken : {kind said : LineKind} → kind ≡ said → (rest : List ℕ) (r : Result Unit LineFault) (new : List ObjectPlan) (want : Result (List ObjectPlan) FileCause) →
      adds d said rest ≡ with_value (objects_in d) want → TakesLine HoldsPlans r new want → Takes (record draft { objects = new }) r d kind rest
  objects_taken is rest r new want made takes =
      added IsDraftOf adds HoldsPlans (objects_in d) d is rest r new (record draft { objects = new }) want made takes (λ plans held. record {
        settings = s.settings;
        names = s.names;
        roles = s.roles;
        channels = s.channels;
        channels_room = s.channels_room;
        anchors = s.anchors;
        commons = s.commons;
        objects = held;
      })
