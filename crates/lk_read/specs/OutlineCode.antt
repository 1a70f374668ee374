-- How an outline is read from the items of a tree, and how the logic stores it.
use Rattle.std.proofs.Common.{◌≡◌, ℕ, ◌+◌, suc, List, Option, refl, ap}
use Rattle.std.specs.Coded.{Coded, coded_ℕ, coded_list, coded_option}
use base.Stored.{Gv, gnil, gnum, gcons}
use Rattle.lk_read.specs.Entry as entry
use Rattle.lk_read.specs.Entry.{Entry, entries_size}
use Rattle.lk_read.specs.Outline.{Plain, word, quoted, list, code, Outline, no_more, leaf, branch}

abbrev head : Gv → Gv
head gnil = gnil
head (gnum n) = gnil
head (gcons a b) = a

abbrev tail : Gv → Gv
tail gnil = gnil
tail (gnum n) = gnil
tail (gcons a b) = b

abbrev text_code : Coded (List ℕ)
text_code = coded_list coded_ℕ

abbrev title_code : Coded (Option (List ℕ))
title_code = coded_option text_code

abbrev entry_code : Entry → Gv
entry_code (entry.word t) = gcons gnil (text_code.code t)
entry_code (entry.quoted t) = gcons (gnum 0) (text_code.code t)
entry_code (entry.pair key t) = gcons (gnum 1) (gcons (text_code.code key) (text_code.code t))
entry_code (entry.other t) = gcons (gnum 2) (text_code.code t)

pub entry_inj : (x y : Entry) → entry_code x ≡ entry_code y → x ≡ y
entry_inj (entry.word a) (entry.word b) p = ap entry.word (text_code.inj a b (ap tail p))
entry_inj (entry.quoted a) (entry.quoted b) p = ap entry.quoted (text_code.inj a b (ap tail p))
entry_inj (entry.pair k a) (entry.pair m b) p = λ i. entry.pair
    (text_code.inj k m (ap (λ g. head (tail g)) p) i)
    (text_code.inj a b (ap (λ g. tail (tail g)) p) i)
entry_inj (entry.other a) (entry.other b) p = ap entry.other (text_code.inj a b (ap tail p))
entry_inj x y p = cc

abbrev coded_entry : Coded Entry
coded_entry = record { code = entry_code; inj = entry_inj }

abbrev pub coded_entries : Coded (List Entry)
coded_entries = coded_list coded_entry

abbrev plain_code : Plain → Gv
plain_code (word t) = gcons gnil (text_code.code t)
plain_code (quoted t) = gcons (gnum 0) (text_code.code t)
plain_code (list es) = gcons (gnum 1) (coded_entries.code es)
plain_code (code t) = gcons (gnum 2) (text_code.code t)

pub plain_inj : (x y : Plain) → plain_code x ≡ plain_code y → x ≡ y
plain_inj (word a) (word b) p = ap word (text_code.inj a b (ap tail p))
plain_inj (quoted a) (quoted b) p = ap quoted (text_code.inj a b (ap tail p))
plain_inj (list a) (list b) p = ap list (coded_entries.inj a b (ap tail p))
plain_inj (code a) (code b) p = ap code (text_code.inj a b (ap tail p))
plain_inj x y p = cc

abbrev outline_code : Outline → Gv
outline_code no_more = gnil
outline_code (leaf name place value rest) =
    gcons (gnum 0) (gcons (text_code.code name) (gcons (gnum place) (gcons (plain_code value) (outline_code rest))))
outline_code (branch name place title inner rest) =
    gcons (gnum 1) (gcons (text_code.code name) (gcons (gnum place) (gcons (title_code.code title) (gcons (outline_code inner) (outline_code rest)))))

pub outline_inj : (x y : Outline) → outline_code x ≡ outline_code y → x ≡ y
outline_inj no_more no_more p = refl
outline_inj (leaf n a v r) (leaf m b w s) p = λ i. leaf
    (text_code.inj n m (ap (λ g. head (tail g)) p) i)
    (coded_ℕ.inj a b (ap (λ g. head (tail (tail g))) p) i)
    (plain_inj v w (ap (λ g. head (tail (tail (tail g)))) p) i)
    (outline_inj r s (ap (λ g. tail (tail (tail (tail g)))) p) i)
outline_inj (branch n a v c r) (branch m b w d s) p = λ i. branch
    (text_code.inj n m (ap (λ g. head (tail g)) p) i)
    (coded_ℕ.inj a b (ap (λ g. head (tail (tail g))) p) i)
    (title_code.inj v w (ap (λ g. head (tail (tail (tail g)))) p) i)
    (outline_inj c d (ap (λ g. head (tail (tail (tail (tail g))))) p) i)
    (outline_inj r s (ap (λ g. tail (tail (tail (tail (tail g))))) p) i)
outline_inj x y p = cc

abbrev pub coded_outline : Coded Outline
coded_outline = record { code = outline_code; inj = outline_inj }

abbrev pub plain_size : Plain → ℕ
plain_size (word t) = 0
plain_size (quoted t) = 0
plain_size (list es) = entries_size es
plain_size (code t) = 0

-- how many parameters and blocks' ends there are, and how much is in lists
abbrev pub size_of : Outline → ℕ
size_of no_more = 0
size_of (leaf name place value rest) = suc (plain_size value + size_of rest)
size_of (branch name place title inner rest) = suc (suc (size_of inner + size_of rest))
