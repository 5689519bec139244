-- Which paths are those of the page for browsers, and the bytes of the replies.
use Rattle.std.specs.Prelude.{ℕ, ◌||◌, List, [], ◌∷◌, ◌++◌, codes, bytes_eq, if◌then◌else◌, Option, Some, None, option_map}
use Rattle.octo_api_worker.specs.declared.page.Page.{Page}
use Rattle.octo_api_worker.specs.declared.page.Page.TheVariants.{Html, HtmlHead, Icon, Methods, BadMethod}
use Rattle.octo_api_worker.specs.declared.html.TheConstants.{PAGE_HEAD, PAGE_REPLY}

-- what GET shows at a path
abbrev pub page_at : List ℕ → Option Page
page_at path =
    if bytes_eq path (codes "/") || bytes_eq path (codes "/index.html") then Some Html
    else if bytes_eq path (codes "/favicon.ico") then Some Icon
    else None

-- what HEAD shows at a path at which GET shows this: the head alone
abbrev pub head_of : Page → Page
head_of Html = HtmlHead
head_of page = page

-- what a method shows at a path at which GET shows this
abbrev pub by_method : List ℕ → Page → Page
by_method method page =
    if bytes_eq method (codes "GET") then page
    else if bytes_eq method (codes "HEAD") then head_of page
    else if bytes_eq method (codes "OPTIONS") then Methods
    else BadMethod

-- what a method shows at a path, none if the path isn't one of the page
abbrev pub page_of : List ℕ → List ℕ → Option Page
page_of method path = option_map (by_method method) (page_at path)

-- a line of a reply's head, with its end
abbrev pub head_line : List ℕ → List ℕ
head_line text = text ++ 13 ∷ 10 ∷ []

-- the whole reply
abbrev pub page_bytes : Page → List ℕ
page_bytes Html = PAGE_REPLY.now
page_bytes HtmlHead = PAGE_HEAD.now
page_bytes Icon =
    head_line (codes "HTTP/1.1 204 No Content")
    ++ head_line (codes "Connection: close")
    ++ head_line (codes "Cache-Control: max-age=86400")
    ++ head_line []
page_bytes Methods =
    head_line (codes "HTTP/1.1 204 No Content")
    ++ head_line (codes "Connection: close")
    ++ head_line (codes "Allow: GET, HEAD")
    ++ head_line []
page_bytes BadMethod =
    head_line (codes "HTTP/1.1 405 Method Not Allowed")
    ++ head_line (codes "Connection: close")
    ++ head_line (codes "Content-Length: 0")
    ++ head_line (codes "Allow: GET, HEAD")
    ++ head_line []
