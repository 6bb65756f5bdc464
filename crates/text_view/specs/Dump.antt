-- A view as a line of text: the words in which answers are compared with the Rust's. Assumes nothing.
use Rattle.std.specs.Prelude.{ℕ, ◌+◌, ◌/◌, ◌%◌, Bool, List, [], ◌∷◌, ◌++◌, ltb}
use Rattle.law_base.specs.Rules.{◌⇒◌, ◌∣◌}
use Rattle.text_out.specs.Out.{ascii, decimal, each_byte}
use Rattle.rows.specs.declared.Tone.{Tone}
use Rattle.play_entries.specs.declared.Duration.{Duration}
use Rattle.text_value.specs.Values.{flag, duration_text}
use Rattle.text_view.specs.View.{View}

-- a byte as two lower-case hexadecimal digits
unfoldable pub digit : ℕ → ℕ
digit d = ltb d 10 ⇒ 48 + d ∣ 87 + d

unfoldable pub hex : ℕ → List ℕ
hex b = digit (b / 16) ∷ digit (b % 16) ∷ []

abbrev pub hex_all : List ℕ → List ℕ
hex_all bs = each_byte hex bs

-- cycles `x` first half `/` second half `,`
unfoldable pub tone_text : Tone → List ℕ
tone_text t = decimal t.num ++ ascii "x" ++ decimal t.len1 ++ ascii "/" ++ decimal t.len2 ++ ascii ","

unfoldable pub tones_text : List Tone → List ℕ
tones_text [] = []
tones_text (t ∷ ts) = tone_text t ++ tones_text ts

-- a word and a number
unfoldable pub field : List ℕ → ℕ → List ℕ
field word n = word ++ decimal n

-- `i sel=s`
unfoldable pub sel_text : ℕ → Bool → List ℕ
sel_text i selectable = decimal i ++ ascii " sel=" ++ flag selectable

-- ` zero=z one=o last=l`
unfoldable pub bits_text : ℕ → ℕ → ℕ → List ℕ
bits_text nil one last =
    field (ascii " zero=") nil
    ++ field (ascii " one=") one
    ++ field (ascii " last=") last

-- ` pause=p name=`
unfoldable pub end_text : Duration → List ℕ
end_text pause =
    ascii " pause=" ++ duration_text pause
    ++ ascii " name="

unfoldable pub head_text : ℕ → Bool → ℕ → ℕ → ℕ → Duration → List ℕ
head_text i selectable nil one last pause = sel_text i selectable ++ bits_text nil one last ++ end_text pause

-- THE LINE of view i: the numbers, the name's bytes, ` data=`, the data's, ` tones=`, the tones
unfoldable pub view_line : ℕ → View → List ℕ
view_line i v =
    head_text i v.selectable v.zero v.one v.last v.pause
    ++ hex_all v.name
    ++ ascii " data=" ++ hex_all v.bytes
    ++ ascii " tones=" ++ tones_text v.tones
    ++ ascii "\n"
