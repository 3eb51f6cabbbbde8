-- Whether two certificates are equal.
use Rattle.std.specs.Prelude.{Bool, true, false, ◌&&◌, ◌==◌, Option, Some, None}
use Rattle.prin_term.specs.Principal.{Principal}
use Rattle.stmt_codec.specs.Certificates.{Certificate}
use Rattle.stmt_codec.specs.Distinct.{same_principal}

-- whether both quote nobody, or one principal
abbrev pub same_quoted : Option Principal → Option Principal → Bool
same_quoted None None = true
same_quoted (Some p) (Some q) = same_principal p q
same_quoted _ _ = false

-- whether two certificates are equal, in every field
abbrev pub same_certificate : Certificate → Certificate → Bool
same_certificate c d =
    (c.issuer == d.issuer) && (same_quoted c.quoted d.quoted
    && (same_principal c.left d.left && (same_principal c.right d.right
    && ((c.from == d.from) && ((c.until == d.until) && (c.serial == d.serial))))))
