-- What is answered to who asks by HTTP what a node has counted.
use Rattle.std.specs.Prelude.{◌≡◌, ◌≢◌, ◌⊎◌, ℕ, codes, List, [], ◌∷◌}
use Rattle.http.specs.Request.{head_of}
use Rattle.http.specs.declared.request.Request.{Request}
use Rattle.http1.specs.Fields.{Header}
use Rattle.http_server.specs.Response.{IsResponse}
use Rattle.http_server.specs.declared.response.Response.{Response}
use Rattle.http_uri.specs.Uri.{uri_path}
use Rattle.node_telling.specs.Page.{page}
use Rattle.node_telling.specs.declared.texts.status.Status.{Status}

-- the request asks to read, by GET or by HEAD, whose body the server leaves out
abbrev pub Reads : Request (List ℕ) → Type 0
Reads request =
    ((head_of request).method ≡ codes "GET") ⊎ ((head_of request).method ≡ codes "HEAD")

-- the path that is asked for, without a query
abbrev pub path_in : Request (List ℕ) → List ℕ
path_in request = uri_path (head_of request).uri

-- each answer ends its connection
abbrev pub closing : Header
closing = (codes "connection", codes "close")

-- what a text is: that of a page, by the format that it has, or plain
abbrev pub typed : List ℕ → List Header
typed kind = closing ∷ (codes "content-type", kind) ∷ []

pub record Answers (version : List ℕ) (status : Status) (request : Request (List ℕ))
    (response : Response) : Type 0 where
  pub metrics : Reads request → path_in request ≡ codes "/metrics" → IsResponse 200
      (typed (codes "text/plain; version=0.0.4; charset=utf-8")) (page version status) response
  pub health : Reads request → path_in request ≡ codes "/healthz" → IsResponse 200
      (typed (codes "text/plain; charset=utf-8")) (codes "ok\n") response
  pub elsewhere : Reads request → path_in request ≢ codes "/metrics"
      → path_in request ≢ codes "/healthz" → IsResponse 404 (closing ∷ []) [] response
  pub writes : (Reads request → ⊥) → IsResponse 405 (closing ∷ []) [] response
