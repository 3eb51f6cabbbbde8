-- What a payload is that was read, and what is answered to one that is no request under its seal.
use Rattle.std.proofs.Common.{◌≡◌, ◌⊎◌, ℕ, zero, suc, ◌+◌, ◌<◌, ◌≤◌, Bool, true, false, List, [], ◌∷◌, ◌++◌, length, get_or, All, Some, Err, sym, ap, ◌∙◌, arith, length-append, inl, inr}
use Rattle.std.specs.List.{flat_map}
use Rattle.std.specs.Int.{w16, to_be_bytes}
use Rattle.std.proofs.lemmas.List.Concat.{flat_map-cons}
use Rattle.keyed_seal.specs.Keys.{key_of}
use Rattle.byte_fields.specs.Steps.{counted}
use Rattle.byte_fields.specs.declared.fault.FormatFault.{FormatFault as WireFault}
use Rattle.byte_fields.specs.declared.fault.FormatFault.TheVariants as wire
use Rattle.taos_wire.specs.Request.{Request, Spells, IsSealed, origin_bytes, asked_bytes, certs_bytes}
use Rattle.taos_wire.specs.RequestReading.{request_of}
use Rattle.taos_wire.specs.Reply as replies
use Rattle.taos_wire.specs.Reply.{unsealed}
use Rattle.request_course.specs.Cells.{Node, Journals}
use Rattle.request_course.specs.Course.{CourseAfter, nothing, malformed, bad_seal}

-- ---- how long what it presents is

text_short : (text : List ℕ) → length text ≤ length (counted w16 text)
text_short text = omega (arith, length-append (to_be_bytes w16 (length text)) text)

one_short : (texts : List (List ℕ)) (k : ℕ) (d : List ℕ) → k < length texts → length (get_or texts k d) ≤ length (flat_map (counted w16) texts)
one_short [] k d lt = absurd (omega (arith, lt))
one_short (t ∷ texts) zero d lt = omega (arith, text_short t, ap length (flat_map-cons (counted w16) t texts), length-append (counted w16 t) (flat_map (counted w16) texts))
one_short (t ∷ texts) (suc k) d lt =
    omega (arith, one_short texts k d (omega (arith, lt)), ap length (flat_map-cons (counted w16) t texts), length-append (counted w16 t) (flat_map (counted w16) texts))

last_part : (a b c tag payload : List ℕ) → payload ≡ (a ++ b ++ c) ++ tag → length c + length tag ≤ length payload
last_part a b c tag payload is =
    let whole : length payload ≡ length (a ++ b ++ c) + length tag = ap length is ∙ length-append (a ++ b ++ c) tag in
    let front : length (a ++ b ++ c) ≡ length (a ++ b) + length c = length-append (a ++ b) c in
    omega (arith, whole, front)

pub texts_short : (r : Request) (payload : List ℕ) → Spells r payload → length payload ≤ 65536 → All (λ t. length t ≤ 65531) r.certs
texts_short r payload is short = λ k d lt.
    let one = one_short r.certs k d lt in
    let last = last_part (origin_bytes r.channel r.seq r.quoted) (asked_bytes r.object r.op) (certs_bytes r.certs) is.tag payload is.text in
    omega (arith, one, short, last, is.is_tag.0)

-- ---- what is answered without a seal

pub is_malformed : (n : Node) (past J : Journals) (payload : List ℕ) (offset : ℕ) (f : WireFault) → f ≡ wire.Malformed offset → ((r : Request) → Spells r payload → f ≡ wire.NoMemory) → (f ≡ wire.NoMemory) ⊎ (request_of payload ≡ Err f) →
    CourseAfter n past J payload nothing (unsealed (replies.Malformed offset))
is_malformed n past J payload offset f is only (inl want) = let bad : wire.Malformed offset ≡ wire.NoMemory = sym is ∙ want in absurd cc
is_malformed n past J payload offset f is only (inr at) =
    malformed (λ r spelled. let bad : wire.Malformed offset ≡ wire.NoMemory = sym is ∙ only r spelled in absurd cc) (at ∙ ap (λ (g : WireFault). Err g) is)

pub has_bad_seal : (n : Node) (past J : Journals) (payload : List ℕ) (r : Request) (key : List ℕ) (right : Bool) → Spells r payload → Some key ≡ key_of n.channels r.channel → (IsSealed key payload → right ≡ true) → right ≡ false →
    CourseAfter n past J payload nothing (unsealed replies.BadSeal)
has_bad_seal n past J payload r key right spelled keyed sealed wrong = bad_seal r key spelled (sym keyed) (λ is. let bad : true ≡ false = sym (sealed is) ∙ wrong in absurd cc)
