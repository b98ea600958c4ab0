-- The text of an answer and of a line, in the parts that are written one behind the other. Assumes nothing.
use Prim.Native.Nat.{ℕ}
use mathlib.Core.Path.{◌≡◌, refl, ◌∙◌, ap}
use mathlib.Core.List.{[], ◌∷◌, ◌++◌, append_assoc}
use Rattle.model.specs.Bytes.{Bytes}
use Rattle.model.specs.Listing.{decimal, blank, line_feed, answer_text, header, refused_line}
use Rattle.model.specs.declared.Kind.{Kind}
use Rattle.model.specs.declared.Answer.{Answer}
use Rattle.model.specs.declared.Answer.TheVariants.{Time, None, Refused}
use Rattle.lines.specs.Texts.{field_text, time_text, none_text, pair_text}

pub time_text_law : (seconds hops pairs : ℕ) (kind : Kind) → answer_text (Time seconds hops kind pairs) ≡ time_text seconds kind
unfolding answer_text time_text field_text
time_text_law seconds hops pairs kind = refl

pub none_text_law : (pairs : ℕ) (kind : Kind) → answer_text (None kind pairs) ≡ none_text kind
unfolding answer_text none_text
none_text_law pairs kind = refl

pub refused_text : (rule : ℕ) → answer_text (Refused rule) ≡ []
unfolding answer_text
refused_text rule = refl

pub pair_parts : (s t : ℕ) (a : Answer) → pair_text s t a ≡ field_text s ++ (field_text t ++ (answer_text a ++ line_feed))
unfolding pair_text field_text
pair_parts s t a =
    ap (λ (front : Bytes). front ++ answer_text a ++ line_feed) (append_assoc (field_text s) (decimal t) blank) ∙
    append_assoc (field_text s ++ field_text t) (answer_text a) line_feed ∙
    append_assoc (field_text s) (field_text t) (answer_text a ++ line_feed)

-- What stands in the header after each part.
abbrev pub after_transit : ℕ → Bytes
after_transit T = decimal T ++ line_feed

abbrev pub after_count : ℕ → Bytes
after_count T = (116 ∷ 114 ∷ 97 ∷ 110 ∷ 115 ∷ 105 ∷ 116 ∷ 32 ∷ []) ++ after_transit T

abbrev pub after_places : ℕ → ℕ → Bytes
after_places n T = field_text n ++ after_count T

pub header_parts : (n T : ℕ) → header n T ≡ (112 ∷ 108 ∷ 97 ∷ 99 ∷ 101 ∷ 115 ∷ 32 ∷ []) ++ after_places n T
unfolding header field_text
header_parts n T = simp append_assoc

pub refused_parts : (rule : ℕ) → refused_line rule ≡ (114 ∷ 101 ∷ 102 ∷ 117 ∷ 115 ∷ 101 ∷ 100 ∷ 32 ∷ []) ++ (decimal rule ++ line_feed)
unfolding refused_line
refused_parts rule = refl
