-- A certificate keeps its facts in one way.
use Rattle.std.specs.Prelude.{◌≡◌, Option, None, Some, IfSome}
use Rattle.std.specs.Coded.{×_prop, Unit-prop, le_prop, Coded-set}
use Rattle.prin_term.specs.Principal.{Principal, Key, Name, And, Quoting, InRole, For, HasSpelling}
use Rattle.prin_term.specs.Codes.{principal_code}
use Rattle.stmt_codec.specs.Certificates.{Certificate, IsSmall, IsWithinLimits, HasBodySpelling}

-- that two principals are equal holds in one way
pub principal-set : (p q : Principal) → IsProp (p ≡ q)
principal-set p q = Coded-set principal_code p q

-- that a principal is small holds in one way
IsSmall-prop : (p : Principal) → IsProp (IsSmall p)
IsSmall-prop p = ×_prop le_prop le_prop

-- that a quoted principal is small holds in one way
quoted-prop : (o : Option Principal) → IsProp (IfSome o IsSmall)
quoted-prop None = Unit-prop
quoted-prop (Some p) = IsSmall-prop p

-- that a certificate is within the limits holds in one way
pub IsWithinLimits-prop : (c : Certificate) → IsProp (IsWithinLimits c)
IsWithinLimits-prop c x y = λ i. record {
  quoted_fits = quoted-prop c.quoted x.quoted_fits y.quoted_fits i;
  left_fits = IsSmall-prop c.left x.left_fits y.left_fits i;
  right_fits = IsSmall-prop c.right x.right_fits y.right_fits i;
  few_subterms = le_prop x.few_subterms y.few_subterms i;
}

-- that the numbers of a principal fit holds in one way
HasSpelling-prop : (p : Principal) → IsProp (HasSpelling p)
HasSpelling-prop (Key k) = le_prop
HasSpelling-prop (Name n) = le_prop
HasSpelling-prop (And a b) = ×_prop (HasSpelling-prop a) (HasSpelling-prop b)
HasSpelling-prop (Quoting a b) = ×_prop (HasSpelling-prop a) (HasSpelling-prop b)
HasSpelling-prop (InRole a r) = ×_prop (HasSpelling-prop a) le_prop
HasSpelling-prop (For a b) = ×_prop (HasSpelling-prop a) (HasSpelling-prop b)

-- that those of a quoted principal fit holds in one way
quoted_spelling-prop : (o : Option Principal) → IsProp (IfSome o HasSpelling)
quoted_spelling-prop None = Unit-prop
quoted_spelling-prop (Some p) = HasSpelling-prop p

-- that those of a certificate fit holds in one way
pub HasBodySpelling-prop : (c : Certificate) → IsProp (HasBodySpelling c)
HasBodySpelling-prop c x y = λ i. record {
  issuer = le_prop x.issuer y.issuer i;
  quoted = quoted_spelling-prop c.quoted x.quoted y.quoted i;
  left = HasSpelling-prop c.left x.left y.left i;
  right = HasSpelling-prop c.right x.right y.right i;
  from = le_prop x.from y.from i;
  until = le_prop x.until y.until i;
  serial = le_prop x.serial y.serial i;
}
