-- What a line of a certificate says.
use Rattle.std.specs.Prelude.{ℕ, List, [], ◌∷◌, if◌then◌else◌, Option, Some, None, codes, bytes_eq}
use Rattle.std.specs.List.{list_all}
use Rattle.base_kit.specs.Numbers.{number_of}
use Rattle.cfg_ast.specs.text.Words.{is_router_name}

pub data CertificateLine : Type 0 where
  Head : CertificateLine
  Divide : (block by : ℕ) (name : List ℕ) (link : ℕ) → CertificateLine
  Group : (names : List (List ℕ)) → CertificateLine
  End : CertificateLine

-- certificate 1
abbrev pub head_form : List (List ℕ) → Option CertificateLine
head_form (what ∷ version ∷ []) = if bytes_eq what (codes "certificate") then (if bytes_eq version (codes "1") then Some Head else None) else None
head_form _ = None

abbrev pub divide : Option ℕ → Option ℕ → List ℕ → Option ℕ → Option CertificateLine
divide (Some block) (Some by) name (Some link) = Some (Divide block by name link)
divide block by name link = None

-- B T NAME L
abbrev pub split_form : List (List ℕ) → Option CertificateLine
split_form (block ∷ by ∷ name ∷ link ∷ []) = if is_router_name name then divide (number_of block) (number_of by) name (number_of link) else None
split_form _ = None

-- NAME ..
abbrev pub group_form : List (List ℕ) → Option CertificateLine
group_form [] = None
group_form (name ∷ names) = if list_all is_router_name (name ∷ names) then Some (Group (name ∷ names)) else None

-- nothing more
abbrev pub closing_form : List (List ℕ) → Option CertificateLine
closing_form [] = Some End
closing_form _ = None

-- `bonsai certificate 1`, `split B T NAME L`, `group NAME ..` or `end`
unfoldable pub certificate_line_of : List ℕ → List (List ℕ) → Option CertificateLine
certificate_line_of word words =
    if bytes_eq word (codes "bonsai") then head_form words
    else (if bytes_eq word (codes "split") then split_form words
    else (if bytes_eq word (codes "group") then group_form words
    else (if bytes_eq word (codes "end") then closing_form words
    else None)))
