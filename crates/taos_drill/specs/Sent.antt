-- What the lanes of a drill send.
use Rattle.std.specs.Prelude.{◌≡◌, ℕ, ◌+◌, ◌/◌, ◌%◌, ◌==◌, if◌then◌else◌, List, [], ◌∷◌, map, filter, None}
use Rattle.std.specs.List.{range_with_len}
use Rattle.frame_link.specs.Frames.{framed}
use Rattle.object_core.specs.Operation.{Read}
use Rattle.prin_term.specs.Principal.{Key, Name}
use Rattle.sealed_cert.specs.declared.kind.TheConstants.{RELAYED}
use Rattle.sealed_cert.specs.Seals as seals
use Rattle.stmt_codec.specs.Certificates.{Certificate, says}
use Rattle.taos_wire.specs.Request.{IsAsked, Request, sealed}
use Rattle.taos_drill.specs.Opened.{drill_opening}
use Rattle.taos_drill.specs.Words.{is_even, key_at, word_of, words_of}

-- key 1000 says that the channel's key speaks for name 1
abbrev pub drill_certificate : ℕ → Certificate
drill_certificate channel = says 1000 None (Key channel) (Name 1) 4294967296 channel

-- that certificate under the relay's seal for the node
abbrev pub presented : ℕ → ℕ → List ℕ
presented seed channel = seals.sealed RELAYED (key_at seed 0) (drill_certificate channel)

-- the object that a channel's request is about: at an even word the one that it may read
abbrev pub object_for : ℕ → ℕ → ℕ
object_for channel word = if is_even word then channel else 100 + channel

-- a request to read that presents one certificate
abbrev pub asked : ℕ → ℕ → ℕ → List ℕ → Request
asked channel seq object cert = record {
  channel = channel;
  seq = seq;
  quoted = None;
  object = object;
  op = Read;
  certs = cert ∷ [];
}

-- the channel of request i: requests go round the lanes
abbrev pub channel_of : ℕ → ℕ → ℕ
channel_of lanes i = i % lanes + 1

-- the number of request i among those of its channel
abbrev pub number_of : ℕ → ℕ → ℕ
number_of lanes i = i / lanes + 1

-- request i
abbrev pub drill_request : ℕ → ℕ → ℕ → Request
drill_request seed lanes i =
    asked (channel_of lanes i) (number_of lanes i) (object_for (channel_of lanes i) (word_of seed i))
    (presented seed (channel_of lanes i))

-- the payload of request i, under its channel's key
abbrev pub payload_of : ℕ → ℕ → ℕ → List ℕ
payload_of seed lanes i = sealed (key_at seed (channel_of lanes i)) (drill_request seed lanes i)

-- the payload of request i is that request, under the key that the opening has for its channel
abbrev pub IsAskedAt : (seed requests lanes i : ℕ) → Type 0
IsAskedAt seed requests lanes i =
    IsAsked (drill_opening seed requests lanes).channels (payload_of seed lanes i)
    (drill_request seed lanes i) (key_at seed (channel_of lanes i))

-- the requests of a lane, in order
abbrev pub requests_of : ℕ → ℕ → ℕ → List ℕ
requests_of requests lanes lane = filter (λ i. i % lanes == lane) (range_with_len 0 requests)

-- what a lane sends: a frame for each of its requests
abbrev pub drill_stream : ℕ → ℕ → ℕ → ℕ → List ℕ
drill_stream seed requests lanes lane =
    framed (map (payload_of seed lanes) (requests_of requests lanes lane))

-- it is what a lane sends, where the words are those of a seed, and the key and the certificate
-- those of the lane's channel
abbrev pub IsSentBy : (words key cert : List ℕ) → (lanes lane : ℕ) → List ℕ → Type 0
IsSentBy words key cert lanes lane stream =
    (seed requests : ℕ) → words ≡ words_of seed requests → key ≡ key_at seed (lane + 1) →
    cert ≡ presented seed (lane + 1) → stream ≡ drill_stream seed requests lanes lane

-- what all lanes send
abbrev pub drill_streams : ℕ → ℕ → ℕ → List (List ℕ)
drill_streams seed requests lanes =
    map (drill_stream seed requests lanes) (range_with_len 0 lanes)
