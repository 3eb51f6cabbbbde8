-- The members of the objects that lines of JSON are.
use Rattle.std.specs.Prelude.{ℕ, Option, Some, None, codes, decimal, List, [], ◌∷◌, ◌++◌}
use Rattle.std.specs.Net.Text.{socket_text}
use Rattle.std.specs.declared.net.socket_addr.SocketAddr.{SocketAddr}
use Rattle.json.specs.Print.{print}
use Rattle.json.specs.Token.{Token, begin_object, end_object, key, number, string}

-- a member whose value is a number
abbrev pub counted : List ℕ → ℕ → List Token
counted name n = key name ∷ number (decimal n) ∷ []

-- a member whose value is a text
abbrev pub worded : List ℕ → List ℕ → List Token
worded name text = key name ∷ string text ∷ []

-- the same, where there is a number
abbrev pub counted_if : List ℕ → Option ℕ → List Token
counted_if name (Some n) = counted name n
counted_if name None = []

-- a member whose value is a text, where there is one
abbrev pub worded_if : List ℕ → Option (List ℕ) → List Token
worded_if name (Some text) = worded name text
worded_if name None = []

-- the peer, where there is one
abbrev pub peer_members : Option SocketAddr → List Token
peer_members (Some peer) = worded (codes "peer") (socket_text peer)
peer_members None = []

-- when it was, how much it weighs, and its word
abbrev pub first_members : Option ℕ → (level word : List ℕ) → List Token
first_members seconds level word =
    counted_if (codes "time") seconds ++ worded (codes "level") level
    ++ worded (codes "event") word

-- an object of these members, and a line feed
abbrev pub line_of : List Token → List ℕ
line_of members = print (begin_object ∷ members ++ end_object ∷ []) ++ 10 ∷ []
