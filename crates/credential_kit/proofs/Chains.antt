-- What the forms give together, a step of a rule at a time.
use Rattle.std.proofs.Common.{◌≡◌, ℕ, suc, Bool, true, false, cond, List, [], ◌∷◌, slice_get, Some, refl, map, All, Contains}
use Rattle.std.specs.Prelude.{filter}
use Rattle.std.proofs.lemmas.List.Elements.{All-nil, All-cons, All-weaker, All-contains}
use Rattle.prin_term.specs.declared.term.Anchor.{Anchor}
use Rattle.prin_term.specs.Principal.{Principal, Key, Name, Quoting, For}
use Rattle.stmt_codec.specs.Certificates.{Certificate, speaker_of, is_live, live}
use Rattle.stmt_codec.proofs.Living.{live-is_live}
use Rattle.taos_calculus.specs.Rules.{Judgement, SpeaksFor, Says, Derivable}
use Rattle.taos_calculus.specs.Question.{claim_of}
use Rattle.credential_kit.specs.Forms.{in_role, seat, channel_of, login_of, role_of, delegate_of}
use Rattle.credential_kit.specs.Conclusions.{claims_of, HasAnchor, HasLive, Machine, Login, running, acting, IsBooted, IsLoggedIn, LoginSpeaks, DelegateSpeaks, RoleSpeaks}
use Rattle.credential_kit.proofs.Deriving.{Known, chained, first_part, for_two, quotes, acts_for, takes_role, named, claimed, lifted, handed, delegated}

-- x stands at a number
abbrev Found : {X : Type 0} → List X → X → Type 0
Found xs x = (i : ℕ) × (slice_get xs i ≡ Some x)

each_found : {X : Type 0} (xs : List X) → All (λ x. Found xs x) xs
each_found [] = All-nil (λ x. Found [] x)
each_found (x ∷ xs) = All-cons (λ y. Found (x ∷ xs) y) x xs (0, refl) (All-weaker (λ y. Found xs y) (λ y. Found (x ∷ xs) y) (λ y h. (suc h.0, h.1)) xs (each_found xs))

found : {X : Type 0} (xs : List X) (x : X) → Contains xs x → Found xs x
found xs x there = All-contains (λ y. Found xs y) xs x (each_found xs) there

-- what passes a test is found behind the filter, seen by f
each_passes : {X Y : Type 0} (f : X → Y) (t : X → Bool) (xs : List X) → All (λ x. t x ≡ true → Found (map f (filter t xs)) (f x)) xs
each_passes f t [] = All-nil (λ x. t x ≡ true → Found (map f (filter t [])) (f x))
each_passes {X} {Y} f t (x ∷ xs) =
    All-cons (λ y. t y ≡ true → Found (map f (filter t (x ∷ xs))) (f y)) x xs (here (t x))
    (All-weaker (λ y. t y ≡ true → Found (map f (filter t xs)) (f y)) (λ y. t y ≡ true → Found (map f (filter t (x ∷ xs))) (f y)) (λ y h e. behind (t x) (f y) (h e)) xs (each_passes f t xs))
  where
    here : (b : Bool) → b ≡ true → Found (map f (cond b (x ∷ filter t xs) (filter t xs))) (f x)
    here true e = (0, refl)
    here false e = absurd cc

    behind : (b : Bool) (y : Y) → Found (map f (filter t xs)) y → Found (map f (cond b (x ∷ filter t xs) (filter t xs))) y
    behind true y h = (suc h.0, h.1)
    behind false y h = h

passes : {X Y : Type 0} (f : X → Y) (t : X → Bool) (xs : List X) (x : X) → Contains xs x → t x ≡ true → Found (map f (filter t xs)) (f x)
passes f t xs x there = All-contains (λ y. t y ≡ true → Found (map f (filter t xs)) (f y)) xs x (each_passes f t xs) there

module _ (anchors : List Anchor) (certs : List Certificate) (moment : ℕ) where
  abbrev Holds : Judgement → Type 0
  Holds = Known anchors (claims_of (live certs moment))

  anchor_known : (key name : ℕ) → HasAnchor anchors key name → Holds (SpeaksFor (Key key) (Name name))
  anchor_known key name there = let f = found anchors (record { key = key; name = name }) there in named anchors (claims_of (live certs moment)) f.0 (record { key = key; name = name }) f.1

  says_known : (form : ℕ → ℕ → Certificate) (h : HasLive certs moment form) → Holds (Says (speaker_of (form h.until h.serial)) (form h.until h.serial).left (form h.until h.serial).right)
  says_known form h =
      let c : Certificate = form h.until h.serial in
      let f = passes claim_of (is_live moment) certs c h.there (live-is_live moment c h.lives) in
      claimed anchors (claims_of (live certs moment)) f.0 (claim_of c) f.1

  -- a key that is anchored to a name speaks for it in each role
  in_a_role : (key name role : ℕ) → HasAnchor anchors key name → Holds (SpeaksFor (Key key) (in_role name role))
  in_a_role key name role h = chained anchors (claims_of (live certs moment)) (Key key) (Name name) (in_role name role) (anchor_known key name h) (takes_role anchors (claims_of (live certs moment)) (Name name) role)

  -- and hands its word on
  given_role : (key name role k : ℕ) → HasAnchor anchors key name → HasLive certs moment (role_of key k name role) → Holds (SpeaksFor (Key k) (in_role name role))
  given_role key name role k a h =
      handed anchors (claims_of (live certs moment)) (Key k) (in_role name role)
      (lifted anchors (claims_of (live certs moment)) (Key key) (in_role name role) (Key k) (in_role name role) (says_known (role_of key k name role) h) (in_a_role key name role a))

  given_channel : (key c : ℕ) → HasLive certs moment (channel_of key c) → Holds (SpeaksFor (Key c) (Key key))
  given_channel key c h = handed anchors (claims_of (live certs moment)) (Key c) (Key key) (says_known (channel_of key c) h)

  -- the channel of a machine that was booted speaks for its system
  booted : (m : Machine) → IsBooted anchors certs moment m → Holds (SpeaksFor (Key m.channel) (running m))
  booted m h =
      chained anchors (claims_of (live certs moment)) (Key m.channel) (Key m.node) (running m)
      (given_channel m.node m.channel h.channel) (given_role m.key m.system.machine m.system.role m.node h.machine h.boot)

  logged : (m : Machine) (l : Login) → IsBooted anchors certs moment m → IsLoggedIn anchors certs moment m l → Holds (SpeaksFor (Quoting (Key m.channel) (Name l.user)) (acting m l))
  logged m l b is =
      let claims = claims_of (live certs moment) in
      let u : Principal = Name l.user in
      let s : Principal = seat m.system.machine m.system.role l.session in
      let taken : Holds (SpeaksFor (Key m.channel) s) = for_two anchors claims (running m) (Key l.session) (Key m.channel) (booted m b) (given_channel l.session m.channel is.session) in
      let said : Holds (Says u (Quoting s u) (For s u)) =
      lifted anchors claims (Key l.key) u (Quoting s u) (For s u) (says_known (login_of l.key m.system l.session l.user) is.login) (anchor_known l.key l.user is.anchor) in
      let whole : Holds (SpeaksFor (Quoting s u) (For s u)) = delegated anchors claims u s said in
      let system : Holds (SpeaksFor (For s u) (acting m l)) = acts_for anchors claims s (running m) u (first_part anchors claims (running m) (Key l.session)) in
      chained anchors claims (Quoting (Key m.channel) u) (Quoting s u) (acting m l) (quotes anchors claims (Key m.channel) s u taken)
      (chained anchors claims (Quoting s u) (For s u) (acting m l) whole system)

  reached : (m second : Machine) (l : Login) → IsBooted anchors certs moment m → IsLoggedIn anchors certs moment m l → IsBooted anchors certs moment second →
      HasLive certs moment (delegate_of m.channel l.user m.system second.system) →
      Holds (SpeaksFor (Quoting (Key second.channel) (acting m l)) (For (running second) (acting m l)))
  reached m second l b is b2 d =
      let claims = claims_of (live certs moment) in
      let a : Principal = acting m l in
      let s : Principal = running second in
      let said : Holds (Says a (Quoting s a) (For s a)) =
      lifted anchors claims (Quoting (Key m.channel) (Name l.user)) a (Quoting s a) (For s a) (says_known (delegate_of m.channel l.user m.system second.system) d) (logged m l b is) in
      chained anchors claims (Quoting (Key second.channel) a) (Quoting s a) (For s a) (quotes anchors claims (Key second.channel) s a (booted second b2)) (delegated anchors claims a s said)

  derivable : (fact : Judgement) → Holds fact → Derivable anchors (claims_of (live certs moment)) fact
  derivable fact k = record { lines = k.lines; proves = k.proves }

  pub login_speaks : LoginSpeaks anchors certs moment
  login_speaks m l b is = derivable (SpeaksFor (Quoting (Key m.channel) (Name l.user)) (acting m l)) (logged m l b is)

  pub delegate_speaks : DelegateSpeaks anchors certs moment
  delegate_speaks m second l b is b2 d =
      derivable (SpeaksFor (Quoting (Key second.channel) (acting m l)) (For (running second) (acting m l))) (reached m second l b is b2 d)

  pub role_speaks : RoleSpeaks anchors certs moment
  role_speaks user k u r a h = derivable (SpeaksFor (Key k) (in_role u r)) (given_role user u r k a h)
